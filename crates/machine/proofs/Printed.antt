-- Document 01's printed run and the short runs, by computation on the definitions. Assumes nothing.
use mathlib.Core.Path.{refl}
use lib.Count.{ones}
use Rattle.laws.specs.Tests.{all_below, count, count_up_to, any_of, all_of, pairwise, first_from}
use Rattle.machine.specs.Pages.{in_range, listed, page_shift}
use Rattle.machine.specs.Words.{word_sound, word_insertable, frame, physical_by}
use Rattle.machine.specs.Slots.{slots_of, words_of, page_match, is_compared, answers_to, lookup}
use Rattle.machine.specs.Insertion.{overlaps, removes, entry_of, wants, choice, inserted, placed, has_slot}
use Rattle.machine.specs.Sound.{owner_sound, page_sound, live_sound, empty_sound, slot_sound, side_sound}
use Rattle.machine.specs.Registers.{known, writable, base_allowed, configuration_allowed, allowed, registers_sound, reset_strands}
use Rattle.machine.specs.Record.{turned, pushed, put, ones_of, per_thousand, miss_rate, record_sound, records_sound}
use Rattle.machine.specs.State.{state_of, encode, reset, side_fits, sound, words_sound}
use Rattle.machine.specs.Permission.{guest_writable, permitted}
use Rattle.machine.specs.Questions.{asked, asked_insertion, ask, verdict}
use Rattle.machine.specs.Access.{prepare, fault_type, judge, trap_registers}
use Rattle.machine.specs.Step.{act, step, insert_step}
use Rattle.machine.specs.Tsb.{tsb_offset, tsb_pointer}
use Rattle.machine.specs.Examples.{given, printed, PrintedRun}
use Rattle.machine.specs.Ledger.{big_endian}
use Rattle.machine.specs.Serve.{asked_table, tag_fits, word_fits, entry_fits, serve, served_of}
use Rattle.machine.specs.Runs.{spelled, answers_spelled, guest_sends, guest_told, crowds, crowds_told, misfits, misfits_told, ordered, ordered_told}
use Rattle.machine.specs.Runs.{bypasses, bypasses_told, pointed, pointed_told, missing, missing_told, table, table_beyond, four_slots, Runs}
use Rattle.machine.specs.Stream.{eight, width_of, command_at, decode_at, answer_bytes, takes, after, answers_bytes, finish, run_of}

by-computation : PrintedRun × Runs
unfolding PrintedRun given printed spelled answers_spelled guest_sends guest_told crowds crowds_told misfits misfits_told ordered
    ordered_told bypasses bypasses_told pointed pointed_told missing missing_told table table_beyond four_slots big_endian ones ones_of
    per_thousand miss_rate all_below count count_up_to any_of all_of pairwise first_from in_range listed page_shift word_sound
    word_insertable frame physical_by slots_of words_of page_match is_compared answers_to lookup overlaps removes entry_of wants choice
    inserted placed has_slot owner_sound page_sound live_sound empty_sound slot_sound side_sound known writable base_allowed
    configuration_allowed allowed registers_sound reset_strands turned pushed put record_sound records_sound state_of encode reset side_fits
    sound words_sound guest_writable permitted asked asked_insertion ask verdict prepare fault_type judge trap_registers tsb_offset
    tsb_pointer act step insert_step eight width_of command_at decode_at answer_bytes takes after answers_bytes finish run_of asked_table
    tag_fits word_fits entry_fits serve served_of
by-computation = (
  (refl, refl, refl, refl),
  record {
    guest = (refl, refl, refl, refl);
    insertions = (refl, refl, refl, refl);
    operands = (refl, refl, refl, refl);
    order = (refl, refl, refl, refl);
    unmarked = (refl, refl, refl, refl);
    marked = (refl, refl, refl, refl);
    bypass = (refl, refl, refl, refl);
    pointers = (refl, refl, refl, refl);
    miss = (refl, refl, refl, refl);
    absent = refl;
    present = refl;
    hit = (refl, refl, refl, refl);
    stranger = refl;
    empty = refl;
    range = refl;
    size = refl;
  },
)

pub printed-run : PrintedRun
printed-run = by-computation.0

pub runs : Runs
runs = by-computation.1
