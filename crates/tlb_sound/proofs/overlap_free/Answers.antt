-- `tlb_sound::overlap_free` meets its contract. The invariant: no two of the slots from i on overlap, and a bucket without the mark
-- holds none of them.
use Rattle.std.proofs.Common.{◌≡◌, ℕ, ◌+◌, ◌-◌, ◌<◌, ◌≤◌, true, false, eqb, List, length, get_or, take, drop, map, sym, ap, ◌∙◌, arith, length-set}
use Rattle.laws.specs.Tests.{any_of, all_of, pairwise}
use Rattle.laws.proofs.Alls.{all-get}
use Rattle.laws.proofs.Bools.{denies-true, denies-false}
use Rattle.laws.proofs.Walks.{pair-fail, pair-pass, pair_end, pair-drop}
use Rattle.machine.specs.Slots.{slots_of, no_slot, is_live}
use Rattle.machine.specs.Insertion.{overlaps}
use Rattle.machine.specs.declared.Slot.{Slot}
use Rattle.machine.specs.Sound.{slot_sound}
use Rattle.machine.proofs.Slots.{slots_length}
use Rattle.machine.proofs.Sound.{no_slot-sound}
use Rattle.tlb.specs.Rows.{row_slot}
use Rattle.tlb.proofs.ByRow.{rows_length, row-get, later_is}
use Rattle.tlb_sound.specs.Buckets.{bucket_of}
use Rattle.tlb_sound.proofs.Buckets.{Wide, block-wide, block-small, empty-overlaps, bucket-small, Marked, none-marked, mark-empty, mark-live, alone}
use Rattle.tlb_sound.proofs.Rows.{sound_behind}
use Rattle.tlb_sound.proofs.overlap_free.Goals as goal

-- ---- what a turn knows, of the slot j = i - 1 that it reads, and of those behind it
record Turn (all : List Slot) (rows : List (List ℕ)) (most : ℕ) (seen : List ℕ) (mark j : ℕ) (x : Slot) : Type 0 where
  is : x ≡ get_or all j no_slot
  on : map row_slot (take (length rows - (j + 1)) (drop (j + 1) rows)) ≡ drop (j + 1) all
  within : j < length all
  rest : pairwise overlaps (drop (j + 1) all) ≡ true
  later : Marked most seen mark (drop (j + 1) all)

turn : (l : List ℕ) (rows : List (List ℕ)) (most : ℕ) (seen : List ℕ) (mark i : ℕ) (d : List ℕ) (x : Slot) → map row_slot rows ≡ slots_of l → 0 < i → i ≤ length rows
    → pairwise overlaps (drop i (slots_of l)) ≡ true → Marked most seen mark (drop i (slots_of l)) → x ≡ row_slot (get_or rows (i - 1) d)
    → Turn (slots_of l) rows most seen mark (i - 1) x
turn l rows most seen mark i d x h low high r m e =
    let back : i - 1 + 1 ≡ i = omega arith in
    record {
      is = e ∙ row-get rows l h (i - 1) d (omega arith);
      on = later_is rows l h (i - 1 + 1) (i - 1 + 1) (omega arith);
      within = omega (arith, slots_length l, rows_length rows l h);
      rest = rw back r;
      later = rw back m;
    }

-- the bucket is one of the table
inside : (b k owner page : ℕ) (seen : List ℕ) → b ≡ bucket_of k owner page → length seen ≡ 1024 → b < length seen
inside b k owner page seen e f = rw (e, f) (bucket-small k owner page)

pub loop-i-init : goal.loop-i-init
loop-i-init c =
    let a = c.args in
    let l = a.slots.now in
    let n : ℕ = length c.rows-rows.result.now in
    let e = rows_length c.rows-rows.result.now l c.rows-rows.ensures in (
      c.requires.2,
      pair_end no_slot (slots_of l) n overlaps (omega (arith, slots_length l)),
      none-marked c.block_shift-most.result a.seen.now a.mark (slots_of l) n (omega (arith, slots_length l)),
    )

pub bucket-b-requires : goal.bucket-b-requires
bucket-b-requires c = omega (arith, c.block_shift-most.ensures, block-small c.args.code)

pub bounds-seen-b : goal.bounds-seen-b
bounds-seen-b c = inside _ _ _ _ _ c.bucket-b.ensures c.loop-i.invariant.0

pub shared_overlaps_none-requires : goal.shared_overlaps_none-requires
shared_overlaps_none-requires c =
    let f = c.args in
    let wide : Wide f.code c.block_shift-most.result = λ n h. rw c.block_shift-most.ensures (block-wide f.code n h) in
    let all = slots_of c.args.slots.now in
    let j = c.loop-i.i - 1 in
    let here = turn c.args.slots.now c.rows-rows.result.now c.block_shift-most.result c.loop-i.seen c.args.mark c.loop-i.i _ _
    c.rows-rows.ensures c.loop-i-test.true c.loop-i.auto.i c.loop-i.invariant.1 c.loop-i.invariant.2 c.slot_in-x.ensures in
    -- the bucket is the slot's
    let its : c.bucket-b.result ≡ bucket_of c.block_shift-most.result (get_or all j no_slot).owner (get_or all j no_slot).page =
    c.bucket-b.ensures ∙ rw here.is in (
      (sym c.is_live.ensures ∙ c.if-is_live.true, ap slot_sound here.is ∙ all-get slot_sound no_slot all j no_slot-sound c.requires.0),
      ap (all_of slot_sound) here.on ∙ sound_behind all (j + 1) c.requires.0,
      λ e. ap (λ (s : List Slot). any_of (overlaps c.slot_in-x.result) s) here.on
          ∙ ap (λ x. any_of (overlaps x) (drop (j + 1) all)) here.is
          ∙ alone _ c.loop-i.seen f.mark all j here.within here.later f.code wide c.requires.1
          (ap (λ n. eqb (get_or c.loop-i.seen n 0) f.mark) (sym its) ∙ e),
    )

pub returns-then-not-shared_overlaps_none : goal.returns-then-not-shared_overlaps_none
returns-then-not-shared_overlaps_none c =
    let all = slots_of c.args.slots.now in
    let j = c.loop-i.i - 1 in
    let here = turn c.args.slots.now c.rows-rows.result.now c.block_shift-most.result c.loop-i.seen c.args.mark c.loop-i.i _ _
    c.rows-rows.ensures c.loop-i-test.true c.loop-i.auto.i c.loop-i.invariant.1 c.loop-i.invariant.2 c.slot_in-x.ensures in
    let m : any_of (overlaps (get_or all j no_slot)) (drop (j + 1) all) ≡ true =
    rw (← here.is, ← here.on) (denies-false c.shared_overlaps_none.ensures c.if-not-shared_overlaps_none.true) in
    sym (pair-drop overlaps all j (pair-fail no_slot all j overlaps here.within m))

pub bounds-seen-b-then-is_live : goal.bounds-seen-b-then-is_live
bounds-seen-b-then-is_live c = inside _ _ _ _ _ c.bucket-b.ensures c.loop-i.invariant.0

pub loop-i-preserved-then-is_live : goal.loop-i-preserved-then-is_live
loop-i-preserved-then-is_live c =
    let all = slots_of c.args.slots.now in
    let j = c.loop-i.i - 1 in
    let here = turn c.args.slots.now c.rows-rows.result.now c.block_shift-most.result c.loop-i.seen c.args.mark c.loop-i.i _ _
    c.rows-rows.ensures c.loop-i-test.true c.loop-i.auto.i c.loop-i.invariant.1 c.loop-i.invariant.2 c.slot_in-x.ensures in
    let m : any_of (overlaps (get_or all j no_slot)) (drop (j + 1) all) ≡ false =
    rw (← here.is, ← here.on) (denies-true c.shared_overlaps_none.ensures c.if-not-shared_overlaps_none.false) in (
      simp length-set c.loop-i.invariant.0,
      pair-pass no_slot all j overlaps here.within m ∙ here.rest,
      mark-live _ c.loop-i.seen c.args.mark all j here.within here.later _ (c.bucket-b.ensures ∙ rw here.is) (inside _ _ _ _ _ c.bucket-b.ensures c.loop-i.invariant.0),
    )

pub loop-i-preserved : goal.loop-i-preserved
loop-i-preserved c =
    let all = slots_of c.args.slots.now in
    let j = c.loop-i.i - 1 in
    let here = turn c.args.slots.now c.rows-rows.result.now c.block_shift-most.result c.loop-i.seen c.args.mark c.loop-i.i _ _
    c.rows-rows.ensures c.loop-i-test.true c.loop-i.auto.i c.loop-i.invariant.1 c.loop-i.invariant.2 c.slot_in-x.ensures in
    let dead : is_live (get_or all j no_slot) ≡ false = rw (← here.is) (sym c.is_live.ensures ∙ c.if-is_live.false) in (
      c.loop-i.invariant.0,
      pair-pass no_slot all j overlaps here.within (empty-overlaps _ (drop (j + 1) all) dead) ∙ here.rest,
      mark-empty _ c.loop-i.seen _ all j here.within here.later dead,
    )
