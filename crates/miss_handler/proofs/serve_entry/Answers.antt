-- `miss_handler::serve_entry` meets its contract: an entry that does not fit leaves the words, one that fits is inserted.
use mathlib.Core.Path.{◌≡◌, sym}
use mathlib.Core.Bool.{true, false}
use Rattle.machine.specs.State.{counts, state_in}
use Rattle.machine.specs.Serve.{entry_fits}
use Rattle.machine.proofs.State.{encode-state}
use Rattle.questions.proofs.Asks.{held, failed}
use Rattle.miss_handler.proofs.serve_entry.Goals as goal

pub returns-then-not-entry_fits : goal.returns-then-not-entry_fits
returns-then-not-entry_fits c =
    let a = c.args in
    let unfit : entry_fits (state_in a.state.now).registers a.strand a.side a.tag a.word ≡ false =
    failed c.entry_fits.ensures c.if-not-entry_fits.true in
    record { words = rw unfit (sym (encode-state counts _ c.told-state)); answer = rw unfit }

pub returns : goal.returns
returns c =
    let a = c.args in
    let fit : entry_fits (state_in a.state.now).registers a.strand a.side a.tag a.word ≡ true =
    held c.entry_fits.ensures c.if-not-entry_fits.false in
    rw fit c.insert.ensures
