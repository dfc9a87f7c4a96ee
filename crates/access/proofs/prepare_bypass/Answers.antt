-- `access::prepare_bypass` meets its contract, arm by arm.
use mathlib.Core.Path.{◌≡◌, sym, ◌∙◌}
use mathlib.Core.Bool.{true, false}
use native.Mathlib.Omega.{arith}
use lib.Dec.{eqb}
use borrow.Author.Tests.{eq-eqb, ne_eqb}
use Rattle.machine.specs.Words.{bits}
use Rattle.access.proofs.prepare_bypass.Goals as goal

pub returns-then-bit_of-eq0 : goal.returns-then-bit_of-eq0
returns-then-bit_of-eq0 c =
    let memory : eqb (bits 39 1 c.args.used.0) 0 ≡ true = eq-eqb _ _ (sym c.bit_of.ensures ∙ c.if-bit_of-eq0.true) in
    record {
      prepared = rw (c.bypass_translation.ensures, memory);
      fits = tt;
    }

pub returns-in-4 : goal.returns-in-4
returns-in-4 c =
    let io-space : eqb (bits 39 1 c.args.used.0) 0 ≡ false = ne_eqb _ _ (λ e. c.if-bit_of-eq0.false (c.bit_of.ensures ∙ e)) in
    record {
      prepared = rw (io-space, c.in-4.is);
      fits = (omega arith, omega arith);
    }

pub returns-in-3 : goal.returns-in-3
returns-in-3 c =
    let io-space : eqb (bits 39 1 c.args.used.0) 0 ≡ false = ne_eqb _ _ (λ e. c.if-bit_of-eq0.false (c.bit_of.ensures ∙ e)) in
    record {
      prepared = rw (io-space, c.in-3.is);
      fits = (omega arith, omega arith);
    }

pub returns-in_default : goal.returns-in_default
returns-in_default c =
    let rest = c.in_default.in_default-own.rest in
    let io-space : eqb (bits 39 1 c.args.used.0) 0 ≡ false = ne_eqb _ _ (λ e. c.if-bit_of-eq0.false (c.bit_of.ensures ∙ e)) in
    record {
      prepared = rw (c.bypass_translation-in_default.ensures, io-space, ne_eqb _ 4 rest.0.1, ne_eqb _ 3 rest.1);
      fits = tt;
    }
