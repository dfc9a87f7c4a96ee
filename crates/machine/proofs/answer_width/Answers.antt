-- `machine::answer_width` meets its contract, which holds the theorems of the crate.
use mathlib.Core.Path.{refl}
use Rattle.machine.specs.Frame.{SoundKept}
use Rattle.machine.proofs.State.{reset-sound}
use Rattle.machine.proofs.Bytes.{answer-length}
use Rattle.machine.proofs.Demand1.{demand1}
use Rattle.machine.proofs.Demand2.{demand2}
use Rattle.machine.proofs.Demand3.{alike-sound, serve-says, demand3}
use Rattle.machine.proofs.Good.{state-alike, step-sound, described}
use Rattle.machine.proofs.Readable.{readable}
use Rattle.machine.proofs.Reference.{told, sold}
use Rattle.machine.proofs.Examples.{starred}
use Rattle.machine.proofs.Format.{decodes}
use Rattle.machine.proofs.Frame.{framed}
use Rattle.machine.proofs.Printed.{printed-run, runs}
use Rattle.machine.proofs.Searches.{searches}
use Rattle.machine.proofs.Lookups.{lookups}
use Rattle.machine.proofs.Extent.{extent}
use Rattle.machine.proofs.Guests.{guests-confined, mark-alone}
use Rattle.machine.proofs.Host.{host-told}
use Rattle.machine.proofs.answer_width.Goals as goal

kept : SoundKept
kept = record {
  by_reset = reset-sound;
  by_command = step-sound;
  by_miss = λ n u strand side of_zero of_other h. alike-sound n _ _ (serve-says (state-alike n u h) strand side of_zero of_other).alike.ledger;
}

pub returns : goal.returns
returns c = record {
  width = (refl, answer-length);
  told = told;
  sold = sold;
  readable = readable;
  demand1 = demand1;
  demand2 = demand2;
  demand3 = demand3;
  described = described;
  sound = kept;
  framed = framed;
  searches = searches;
  lookups = lookups;
  extent = extent;
  guests = guests-confined;
  mark = mark-alone;
  host = host-told;
  decodes = decodes;
  starred = starred;
  printed = printed-run;
  runs = runs;
}
