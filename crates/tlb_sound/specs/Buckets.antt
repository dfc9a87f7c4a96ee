-- Buckets, by which the check for overlap is fast. None of this is in what `side_sound` promises.
-- Assumes nothing.
use Rattle.std.specs.Prelude.{ℕ, ◌*◌, ◌/◌, ◌%◌, ◌^◌, max, Bool, cond, ◌&&◌, List, [], ◌∷◌, ◌==◌, bit_xor, nat_lt}
use Rattle.machine.specs.Slots.{is_live, size_code}
use Rattle.machine.specs.declared.Slot.{Slot}

-- the largest size code
unfoldable pub largest_code : List Slot → ℕ
largest_code [] = 0
largest_code (x ∷ r) = max (size_code x) (largest_code r)

-- a shift that is at least the page shift of each size code up to m
unfoldable pub block_shift : ℕ → ℕ
block_shift m = cond (nat_lt m 1) 13 (cond (nat_lt m 3) 16 (cond (nat_lt m 5) 22 28))

-- a number that slots have in common if they overlap, for a shift that is at least that of both pages
unfoldable pub bucket_of : ℕ → ℕ → ℕ → ℕ
bucket_of shift owner page = bit_xor (page / 2 ^ shift) (owner % 2 ^ 17 * 7809 / 2 ^ 7) % 1024

-- a live slot of the bucket b
unfoldable pub in_bucket : ℕ → ℕ → Slot → Bool
in_bucket shift b x = is_live x && bucket_of shift x.owner x.page == b
