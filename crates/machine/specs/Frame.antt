-- What can take a live entry from a side of the unit, command by command.
-- Assumes nothing.
use Rattle.std.specs.Prelude.{ℕ, ◌<◌, ◌≡◌, Bool, true, false, List, ◌⊎◌, eqb, get_or, Ok}
use Rattle.laws.specs.Tests.{any_of}
use Rattle.machine.specs.Slots.{no_slot, is_live, partition_of, is_real, context_of, is_locked}
use Rattle.machine.specs.Insertion.{is_empty}
use Rattle.machine.specs.Registers.{partition, selected}
use Rattle.machine.specs.State.{Counts, State, side_of, reset, sound}
use Rattle.machine.specs.Questions.{insertion, verdict}
use Rattle.machine.specs.Step.{act, step}
use Rattle.machine.specs.Stream.{Bytes}
use Rattle.machine.specs.Serve.{serve}
use Rattle.machine.specs.Ledger.{Entry, overlap, unlocked, is_at, in_context}
use Rattle.machine.specs.declared.VirtualAddress.{VirtualAddress}
use Rattle.machine.specs.declared.Slot.{Slot}
use Rattle.machine.specs.declared.Command.{Command}
use Rattle.machine.specs.declared.Command.TheVariants as command

-- the entry that stands in a slot
abbrev pub entry_in : Slot → Entry
entry_in x = record { partition = partition_of x; real = is_real x; context = context_of x; page = x.page; locked = is_locked x; word = x.word }

-- some slot is live and holds the entry, word and lock included; the used bit is no part of it
abbrev pub LivesIn : List Slot → Entry → Type 0
LivesIn s e = (i : ℕ) × (is_live (get_or s i no_slot) ≡ true) × (entry_in (get_or s i no_slot) ≡ e)

-- the entry is live on that side of the unit
abbrev pub Lives : State → ℕ → Entry → Type 0
Lives u side e = LivesIn (side_of u side) e

-- the commands that may take e from a side, and when
pub data Removes (u : State) (side : ℕ) (e : Entry) : Command → Type 0 where
  -- an invalidation takes all that its side has
  invalidated : Removes u side e (command.Invalidate side)
  -- an insertion takes an entry that it overlaps, whatever the lock: one of its own partition
  overlapped : {strand flags word : ℕ} → partition u.registers strand ≡ e.partition
      → overlap (entry_in (insertion u strand side flags word)) e ≡ true
      → Removes u side e (command.Insert strand side flags word)
  -- demap page: of the strand's partition, real or virtual as asked, at the address; if virtual, of the selected context
  demapped_page : {strand selector flags : ℕ} {address : VirtualAddress} → partition u.registers strand ≡ e.partition
      → is_at (partition u.registers strand) (eqb flags 1) (selected u.registers strand selector) address.0 e ≡ true
      → Removes u side e (command.DemapPage strand side selector flags address)
  -- demap context: a virtual entry of the strand's partition and the selected context
  demapped_context : {strand selector : ℕ} → partition u.registers strand ≡ e.partition
      → in_context (partition u.registers strand) (selected u.registers strand selector) e ≡ true
      → Removes u side e (command.DemapContext strand side selector)
  -- demap all: an unlocked entry of the strand's partition, virtual or real
  demapped_all : {strand : ℕ} → partition u.registers strand ≡ e.partition → unlocked e ≡ true → Removes u side e (command.DemapAll strand side)
  -- an insertion with no slot empty and none that overlaps takes the slot of an unlocked entry, of any partition
  displaced : {strand flags word : ℕ} → any_of is_empty (side_of u side) ≡ false
      → ((x : Entry) → Lives u side x → overlap (entry_in (insertion u strand side flags word)) x ≡ false)
      → unlocked e ≡ true
      → Removes u side e (command.Insert strand side flags word)

-- ---- the laws on one command and one served miss that later ones are inductions over
-- a live entry stays, with the same word, or a command that was accepted is one of those, or the miss was served by an insertion that is
pub record Framed : Type 0 where
  pub by_command : (hv : Bool) (n : Counts) (u : State) (c : Command) (side : ℕ) (e : Entry) → sound n u ≡ true → side < 2 → Lives u side e
      → Lives (step hv u c).state side e ⊎ ((verdict hv u c ≡ Ok tt) × Removes u side e c)
  pub by_miss : (n : Counts) (u : State) (strand at : ℕ) (of_zero of_other : Bytes) (side : ℕ) (e : Entry) → sound n u ≡ true → side < 2 → Lives u side e
      → Lives (serve u strand at of_zero of_other).state side e
      ⊎ ((word : ℕ) × (serve u strand at of_zero of_other ≡ act u (command.Insert strand at 0 word)) × Removes u side e (command.Insert strand at 0 word))

-- reset is sound, and every command and served miss, refused or not, leaves a sound state
pub record SoundKept : Type 0 where
  pub by_reset : (n : Counts) → sound n (reset n) ≡ true
  pub by_command : (hv : Bool) (n : Counts) (u : State) (c : Command) → sound n u ≡ true → sound n (step hv u c).state ≡ true
  pub by_miss : (n : Counts) (u : State) (strand side : ℕ) (of_zero of_other : Bytes) → sound n u ≡ true
      → sound n (serve u strand side of_zero of_other).state ≡ true
