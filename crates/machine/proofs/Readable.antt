-- Bytes are read by the format alone: what is read at a place is what the unit takes there; and bytes that begin as a command does hold that
-- command or break off within it, since its operands may be any bytes. Assumes nothing.
use Prim.Native.Nat.{ℕ, zero, suc, ◌+◌, ◌*◌, ◌-◌, ◌/◌, ◌%◌, ◌^◌, ◌≤◌, ◌<◌}
use mathlib.Core.Path.{◌≡◌, refl, ap, ◌∙◌}
use mathlib.Core.Bool.{true, false, ◌||◌}
use mathlib.Core.List.{List, [], ◌∷◌, ◌++◌, append_assoc, append-nil}
use native.Mathlib.Nat.{add-zero, zero-add, add-suc, le_refl, pow-suc, sub_self}
use native.Mathlib.Omega.{arith}
use borrow.Author.Tests.{ltb-true, ltb-false, lt-ltb}
use lib.Dec.{ltb}
use lib.ListN.{length, get_or, take, drop, length-append, take-append-drop}
use lib.Seq.{take-suc, take-length, get_or-drop, get_or-append_seam}
use Rattle.laws.proofs.Bools.{by-test, or_left, or_right}
use Rattle.machine.specs.Stream.{taken_of}
use Rattle.machine.specs.Ledger.{big_endian}
use Rattle.machine.specs.Format.{encoded, fits, Reads, end, unknown, short, full, next, Readable}
use Rattle.machine.specs.declared.Command.{Command}
use Rattle.machine.specs.declared.Command.TheVariants as command
use Rattle.machine.proofs.Runs.{Takes, at-end, at-stop, no_room, one, takes-only, decode-width}
use Rattle.machine.proofs.Format.{decodes}

-- ---- what is read is what the unit takes
-- a command has two bytes at least
two_bytes : (c : Command) → fits c ≡ true → 2 ≤ length (encoded c)
two_bytes c f = (decode-width (encoded c ++ []) 0 (decodes.known [] [] c f)).0

rest-length : {room stop : ℕ} {s rest : List ℕ} {cs : List Command} → Reads s room cs rest stop → length rest ≤ length s
rest-length end = omega arith
rest-length (unknown k) = omega arith
rest-length (short c r e i j) = omega arith
rest-length (full c r f e l) = omega arith
rest-length (next {r = r} {c = c} f e l x) = omega (arith, rest-length x, ap length e, length-append (encoded c) r)

inside : (p s : List ℕ) → 1 ≤ length s → length p < length (p ++ s)
inside p s h = rw length-append (omega arith)

inside-command : (p r : List ℕ) (c : Command) → fits c ≡ true → length p < length (p ++ (encoded c ++ r))
inside-command p r c f = inside p (encoded c ++ r) (rw length-append (omega (arith, two_bytes c f)))

-- behind any bytes p
takes : {room stop : ℕ} {s rest : List ℕ} {cs : List Command} → Reads s room cs rest stop → (p : List ℕ)
    → Takes (p ++ s) (length p) room (record { commands = cs; width = length s - length rest; stop = stop })
takes end p = at-end {at = length p} (rw append-nil (le_refl (length p)))
takes (unknown {b = b} {r = r} k) p =
    rw (sub_self (length (b ∷ r))) (at-stop (inside p (b ∷ r) (omega arith)) (decodes.unknown (p ++ b ∷ r) (length p) (rw get_or-append_seam k)))
takes (short {q = q} c r e i j) p = rw (sub_self (length q)) (at-stop (inside p q i) (decodes.short p q r c e i j))
takes (full {s = s} c r f e l) p = rw (sub_self (length s), e) (no_room (inside-command p r c f) (decodes.known p r c f) l)
takes {room} (next {r = r} {rest = rest} {c = c} f e l x) p =
    let enough : 24 ≤ room = omega arith in
    let w : length (encoded c ++ r) - length rest ≡ length (encoded c) + (length r - length rest) = rw length-append (omega (arith, rest-length x)) in
    rw (e, w) (one (inside-command p r c f) (decodes.known p r c f) enough (rw (length-append, append_assoc) at (takes x (p ++ encoded c))))

pub reads-taken : (s : List ℕ) (room : ℕ) {cs : List Command} {rest : List ℕ} {stop : ℕ} → Reads s room cs rest stop
    → taken_of s room ≡ record { commands = cs; width = length s - length rest; stop = stop }
reads-taken s room x = takes-only s (length s) (takes x []) (omega arith)

-- a stop is no 1
pub reads-stop : {room stop : ℕ} {s rest : List ℕ} {cs : List Command} → Reads s room cs rest stop → stop ≡ 1 → ⊥
reads-stop end h = omega arith
reads-stop (unknown k) h = omega arith
reads-stop (short c r e i j) h = omega arith
reads-stop (full c r f e l) h = omega arith
reads-stop (next f e l x) h = reads-stop x h

-- ---- n bytes from a place; where the bytes have ended, zeros
unfoldable pub front : List ℕ → ℕ → ℕ → List ℕ
front s at zero = []
front s at (suc n) = front s at n ++ (get_or s (at + n) 0 ∷ [])

-- the first n of as many or more
pub front-take : (s : List ℕ) (n : ℕ) → n ≤ length s → front s 0 n ≡ take n s
unfolding front
front-take s zero h = refl
front-take s (suc n) h = rw (zero-add, front-take s n (omega arith), take-suc s n 0)

-- and n more than there are
front-more : (s : List ℕ) (n : ℕ) → (r : List ℕ) × (length r ≡ n) × (front s 0 (length s + n) ≡ s ++ r)
unfolding front
front-more s zero = ([], refl, rw (add-zero, front-take s (length s) (le_refl (length s)), take-length, append-nil))
front-more s (suc n) =
    let h = front-more s n in
    (h.0 ++ (get_or s (length s + n) 0 ∷ []), rw (length-append, h.1) (omega arith), rw (add-suc, zero-add, h.2, append_assoc))

-- ---- the command that a byte begins
abbrev Begins : List ℕ → Type 0
Begins s = (c : Command) × (n : ℕ) × (fits c ≡ true) × (encoded c ≡ front s 0 n)

module _ (s : List ℕ) (bytes : (i : ℕ) → get_or s i 0 < 256) where
  -- n bytes are those of a value
  value : (at n : ℕ) → (v : ℕ) × (v < 256 ^ n) × (big_endian n v ≡ front s at n)
  unfolding big_endian front
  value at zero = (0, omega arith, refl)
  value at (suc n) =
      let h = value at n in
      let b : ℕ = get_or s (at + n) 0 in
      let l : b < 256 = bytes (at + n) in
      let high : (h.0 * 256 + b) / 256 ≡ h.0 = omega arith in
      let low : (h.0 * 256 + b) % 256 ≡ b = omega arith in
      (h.0 * 256 + b, rw pow-suc (omega arith), rw (high, low, h.2))

  eight : (at : ℕ) → (v : ℕ) × (ltb v (2 ^ 64) ≡ true) × (big_endian 8 v ≡ front s at 8)
  eight at = let h = value at 8 in (h.0, lt-ltb h.0 (2 ^ 64) h.1, h.2)

  -- the first byte is k or more than k
  is : (k : ℕ) → k ≤ get_or s 0 0 → (k ≡ get_or s 0 0 → Begins s) → (suc k ≤ get_or s 0 0 → Begins s) → Begins s
  is k h f g = by-test (ltb k (get_or s 0 0)) (λ e. g (ltb-true _ _ e)) (λ e. f (omega (arith, ltb-false k (get_or s 0 0) e)))

  begins : (ltb (get_or s 0 0) 1 || ltb 10 (get_or s 0 0)) ≡ false → Begins s
  unfolding fits encoded front
  begins k =
      let at : ℕ → ℕ = λ i. get_or s i 0 in
      let u : at 0 ≤ 10 = ltb-false 10 (at 0) (or_right (ltb (at 0) 1) _ k) in
      is 1 (ltb-false (at 0) 1 (or_left (ltb (at 0) 1) _ k)) (λ e. (command.Write (at 1) (at 2) (eight 3).0, 11, (eight 3).1, rw ((eight 3).2, e)))
      (λ l. is 2 l (λ e. (command.Insert (at 1) (at 2) (at 3) (eight 4).0, 12, (eight 4).1, rw ((eight 4).2, e)))
      (λ l. is 3 l (λ e. (command.DemapPage (at 1) (at 2) (at 3) (at 4) (record { 0 = (eight 5).0 }), 13, (eight 5).1, rw ((eight 5).2, e)))
      (λ l. is 4 l (λ e. (command.DemapContext (at 1) (at 2) (at 3), 4, refl, rw e))
      (λ l. is 5 l (λ e. (command.DemapAll (at 1) (at 2), 3, refl, rw e))
      (λ l. is 6 l (λ e. (command.Invalidate (at 1), 2, refl, rw e))
      (λ l. is 7 l (λ e. (command.Access (at 1) (at 2) (at 3) (at 4) (record { 0 = (eight 5).0 }), 13, (eight 5).1, rw ((eight 5).2, e)))
      (λ l. is 8 l (λ e. (command.Read (at 1) (at 2), 3, refl, rw e))
      (λ l. is 9 l (λ e. (command.Pointers (at 1) (at 2), 3, refl, rw e))
      (λ l. is 10 l (λ e. (command.Rate (at 1) (at 2), 3, refl, rw e))
      (λ l. absurd (omega arith)))))))))))

-- ---- bytes can be read
abbrev Some : List ℕ → ℕ → Type 0
Some s room = (cs : List Command) × (rest : List ℕ) × (stop : ℕ) × Reads s room cs rest stop

module _ (s : List ℕ) (room : ℕ) where
  -- a command cut off
  some-cut : (c : Command) (n : ℕ) → encoded c ≡ front s 0 n → 1 ≤ length s → length s < n → Some s room
  some-cut c n e i h =
      let l = front-more s (n - length s) in
      let m : n ≡ length s + (n - length s) = omega arith in
      ([], s, 3, short c l.0 (e ∙ ap (front s 0) m ∙ l.2) i (omega (arith, l.1)))

  -- a whole command, with what is read behind it
  some-whole : (c : Command) (r : List ℕ) → fits c ≡ true → s ≡ encoded c ++ r → Some r (room - 24) → Some s room
  some-whole c r f e x = by-test (ltb room 24)
      (λ h. ([], s, 4, full c r f e (ltb-true room 24 h)))
      (λ h. (c ∷ x.0, x.1, x.2, next f e (ltb-false room 24 h) x.3))

  some-begun : 1 ≤ length s → Begins s → ((n : ℕ) → length (drop n s) < length s → Some (drop n s) (room - 24)) → Some s room
  some-begun i (c, n, f, e) again = by-test (ltb (length s) n)
      (λ h. some-cut c n e i (ltb-true (length s) n h))
      (λ h. let w : s ≡ encoded c ++ drop n s = rw (e, front-take s n (ltb-false (length s) n h), take-append-drop) in
      some-whole c (drop n s) f w (again n (omega (arith, two_bytes c f, ap length w, length-append (encoded c) (drop n s)))))

-- with more turns than bytes
some : (turns : ℕ) (s : List ℕ) → ((i : ℕ) → get_or s i 0 < 256) → (room : ℕ) → length s < turns → Some s room
some zero s bytes room h = absurd (omega arith)
some (suc turns) [] bytes room h = ([], [], 0, end)
some (suc turns) (b ∷ s) bytes room h = by-test (ltb b 1 || ltb 10 b)
    (λ k. ([], b ∷ s, 2, unknown k))
    (λ k. some-begun (b ∷ s) room (omega arith) (begins (b ∷ s) bytes k)
    (λ n l. some turns (drop n (b ∷ s)) (λ i. rw get_or-drop (bytes (n + i))) (room - 24) (omega arith)))

pub readable : Readable
readable s bytes room =
    let (cs, rest, stop, x) = some (suc (length s)) s bytes room (omega arith) in
    (record { commands = cs; rest = rest; stop = stop }, x)
