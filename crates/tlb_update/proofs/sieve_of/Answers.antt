-- `tlb_update::sieve_of` meets its contract, for each removal.
use Rattle.tlb_update.proofs.Sifted.{page-sifts, context-sifts, unlocked-sifts, everything-sifts, overlapping-sifts}
use Rattle.tlb_update.proofs.sieve_of.Goals as goal

pub returns-in-Page : goal.returns-in-Page
returns-in-Page c = rw (c.key_address.ensures, c.in-Page.is) (page-sifts _)

pub returns-in-Context : goal.returns-in-Context
returns-in-Context c = rw (c.owner_word.ensures, c.in-Context.is) (context-sifts _ _)

pub returns-in-Unlocked : goal.returns-in-Unlocked
returns-in-Unlocked c = rw c.in-Unlocked.is (unlocked-sifts _)

pub returns-in-Everything : goal.returns-in-Everything
returns-in-Everything c = rw c.in-Everything.is everything-sifts

pub returns-in-Overlapping : goal.returns-in-Overlapping
returns-in-Overlapping c = rw (c.page_size.ensures, c.size_code.ensures, c.in-Overlapping.is) (overlapping-sifts _)
