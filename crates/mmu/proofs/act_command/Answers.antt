-- `mmu::act_command` meets its contract, command by command; one that only reads leaves the words.
use mathlib.Core.Path.{sym, ◌∙◌}
use Rattle.machine.specs.State.{counts}
use Rattle.machine.specs.Step.{act}
use Rattle.machine.proofs.State.{encode-state}
use Rattle.mmu.proofs.act_command.Goals as goal

pub act_insert-requires : goal.act_insert-requires
act_insert-requires c =
    let ready = rw c.in-Insert.is at c.requires in
    ready.sound

pub returns-in-Read : goal.returns-in-Read
unfolding act
returns-in-Read c =
    let e = c.in-Read.is in
    record { words = rw e (sym (encode-state counts _ c.told-state)); answer = c.act_read.ensures ∙ rw (c.at-in-Read.ensures, e) }

pub returns-in-Pointers : goal.returns-in-Pointers
unfolding act
returns-in-Pointers c =
    let e = c.in-Pointers.is in
    record { words = rw e (sym (encode-state counts _ c.told-state)); answer = c.act_pointers.ensures ∙ rw (c.at-in-Pointers.ensures, c.at-in-Pointers-2.ensures, e) }

pub returns-in-Rate : goal.returns-in-Rate
unfolding act
returns-in-Rate c =
    let e = c.in-Rate.is in
    record { words = rw e (sym (encode-state counts _ c.told-state)); answer = c.act_rate.ensures ∙ rw (c.at-in-Rate.ensures, c.at-in-Rate-2.ensures, e) }
