-- `miss_handler::entry_fits` meets its contract: the tag, then the word.
use Prim.Native.Nat.{ℕ}
use mathlib.Core.Path.{◌≡◌, sym, ◌∙◌}
use mathlib.Core.Bool.{Bool}
use mathlib.Core.List.{List}
use Rattle.machine.specs.State.{state_in}
use Rattle.machine.specs.Tsb.{tsb_code, miss_context}
use Rattle.machine.specs.Registers.{tag_access, tag_address}
use Rattle.machine.specs.Serve.{tag_fits, entry_fits}
use Rattle.miss_handler.proofs.entry_fits.Goals as goal

-- what the code asks of the tag
tag : (file : List ℕ) (strand side asked : ℕ) {code context address : ℕ} {b : Bool} → code ≡ tsb_code file strand side 0
    → context ≡ miss_context file strand side → address ≡ (tag_address (tag_access file strand side)).0 → b ≡ tag_fits code context address asked
    → tag_fits (tsb_code file strand side 0) (miss_context file strand side) (tag_address (tag_access file strand side)).0 asked ≡ b
tag file strand side asked p q r e = sym (rw (p, q, r) at e)

pub returns-then-tag_fits : goal.returns-then-tag_fits
unfolding entry_fits
returns-then-tag_fits c =
    let told =
    tag (state_in c.args.state.now).registers c.args.strand c.args.side c.args.tag (rw c.at.ensures at c.tsb_code-code.ensures) c.miss_context-context.ensures
    c.miss_address-address.ensures c.tag_fits.ensures in
    rw (told ∙ c.if-tag_fits.true) (c.word_fits.ensures ∙ rw (c.tsb_code-code.ensures, c.at.ensures))

pub returns-else-tag_fits : goal.returns-else-tag_fits
unfolding entry_fits
returns-else-tag_fits c =
    let told =
    tag (state_in c.args.state.now).registers c.args.strand c.args.side c.args.tag (rw c.at.ensures at c.tsb_code-code.ensures) c.miss_context-context.ensures
    c.miss_address-address.ensures c.tag_fits.ensures in
    rw (told ∙ c.if-tag_fits.false) c.if-tag_fits.false
