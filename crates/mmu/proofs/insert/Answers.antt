-- `mmu::insert` meets its contract: 11 and 12 leave the words, and past them the insertion acts whether or not 13 would refuse it.
use mathlib.Core.Path.{◌≡◌, sym}
use Rattle.machine.specs.Pages.{in_range}
use Rattle.machine.specs.Registers.{tag_access, tag_address}
use Rattle.machine.specs.State.{counts, state_in}
use Rattle.machine.specs.Questions.{asked_insertion, ask}
use Rattle.machine.specs.Step.{insert_step}
use Rattle.machine.proofs.State.{encode-state, insert-acts}
use Rattle.questions.proofs.Asks.{held, failed}
use Rattle.mmu.proofs.insert.Goals as goal

-- here and below, the code asks of the address what the definition asks
pub returns-then-not-in_range : goal.returns-then-not-in_range
unfolding insert_step asked_insertion ask
returns-then-not-in_range c =
    let a = c.args in
    let address : c.in_range.result ≡ in_range (tag_address (tag_access (state_in a.state.now).registers a.strand a.side)).0 =
    rw (c.tag_address.ensures, c.tag_of.ensures) at c.in_range.ensures in
    let e = failed address c.if-not-in_range.true in
    record { words = rw e (sym (encode-state counts _ c.told-state)); answer = rw e }

pub returns-then-not-word_insertable : goal.returns-then-not-word_insertable
unfolding insert_step asked_insertion ask
returns-then-not-word_insertable c =
    let a = c.args in
    let address : c.in_range.result ≡ in_range (tag_address (tag_access (state_in a.state.now).registers a.strand a.side)).0 =
    rw (c.tag_address.ensures, c.tag_of.ensures) at c.in_range.ensures in
    let e = held address c.if-not-in_range.false in
    let w = failed c.word_insertable.ensures.insertable c.if-not-word_insertable.true in
    record { words = rw (e, w) (sym (encode-state counts _ c.told-state)); answer = rw (e, w) }

pub returns : goal.returns
returns c =
    let a = c.args in
    let address : c.in_range.result ≡ in_range (tag_address (tag_access (state_in a.state.now).registers a.strand a.side)).0 =
    rw (c.tag_address.ensures, c.tag_of.ensures) at c.in_range.ensures in
    let e = held address c.if-not-in_range.false in
    let w = held c.word_insertable.ensures.insertable c.if-not-word_insertable.false in
    rw (insert-acts (state_in a.state.now) a.strand a.side a.flags a.word e w) c.act_insert.ensures
