-- The starred examples of document 01, by computation. Assumes nothing.
use mathlib.Core.Path.{refl}
use Rattle.machine.specs.Pages.{in_range, page_shift}
use Rattle.machine.specs.Words.{frame, physical_by}
use Rattle.machine.specs.Registers.{known, writable, allowed, reset_strands}
use Rattle.machine.specs.Permission.{guest_writable, permitted}
use Rattle.machine.specs.Questions.{asked, ask, verdict}
use Rattle.machine.specs.Access.{prepare, fault_type, judge}
use Rattle.machine.specs.Tsb.{tsb_offset, tsb_pointer}
use Rattle.machine.specs.Examples.{Starred}

pub starred : Starred
unfolding in_range page_shift frame physical_by known writable allowed reset_strands guest_writable permitted asked ask verdict
    prepare fault_type judge tsb_offset tsb_pointer
starred = record {
  range = (refl, refl, refl, refl);
  accepted = λ hv u h. rw h;
  refused = λ hv u. (_, refl, refl);
  large = refl;
  privileged = (refl, refl, refl, (_, refl, refl, refl));
  bypassed = (_, refl, refl, refl);
  pointers = (refl, refl);
}
