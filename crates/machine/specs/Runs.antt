-- Short runs and what they answer, byte by byte, on the definitions: what unit and second texts could say alike and wrong. Each request of document 02 has one.
-- Assumes nothing.
use Rattle.std.specs.Prelude.{ℕ, ◌+◌, ◌*◌, ◌^◌, ◌≡◌, Bool, true, false, List, [], ◌∷◌, ◌++◌, length, replicate, Some, None}
use Rattle.machine.specs.Slots.{no_slot, searched}
use Rattle.machine.specs.State.{Counts, counts, encode, reset}
use Rattle.machine.specs.Stream.{Bytes, answer_bytes, Outcome, run_of}
use Rattle.machine.specs.Serve.{served_of}
use Rattle.machine.specs.Ledger.{big_endian}
use Rattle.machine.specs.declared.Slot.{Slot}
use Rattle.machine.specs.declared.Key.TheVariants.{Virtual}

-- ---- bytes as the digits of a number show them
-- commands, each with its width
unfoldable pub spelled : List (ℕ × ℕ) → Bytes
spelled [] = []
spelled (x ∷ r) = big_endian x.0 x.1 ++ spelled r

unfoldable pub answers_spelled : List ℕ → Bytes
answers_spelled [] = []
answers_spelled (x ∷ r) = big_endian 24 x ++ answers_spelled r

-- an answer of kind 0 that counts nothing, and one of kind 5 by its number
abbrev pub done : ℕ
done = 0

abbrev pub refused : ℕ → ℕ
refused number = (0x0500 + number) * 2 ^ 176

-- ---- a run, of a unit with so many slots
abbrev pub run_on : Counts → Bool → List ℕ → List (ℕ × ℕ) → List ℕ → Outcome
run_on n hv words commands answers = run_of hv n words (spelled commands) (replicate (24 * length answers) 0xFF)

-- all commands are taken, and answered so
abbrev pub RunAnswers : Counts → Bool → List ℕ → List (ℕ × ℕ) → List ℕ → Type 0
RunAnswers n hv words commands answers =
    let o : Outcome = run_on n hv words commands answers in
    (o.output ≡ answers_spelled answers) × (o.answered ≡ length answers) × (o.taken ≡ length (spelled commands)) × (o.stop ≡ 0)

abbrev pub at_reset : Counts → List ℕ
at_reset n = encode (reset n)

-- most go on a unit with a data side of two slots: what is proved of slots is so for any number of them, and less is computed
abbrev pub two_slots : Counts
two_slots = record { itlb = 1; dtlb = 2 }

-- ---- document 01, with U3, U5 and U6: strand 3 as a privileged guest
unfoldable pub guest_sends : List (ℕ × ℕ)
guest_sends =
    -- translation on, primary context 5, secondary 6, mode 1
    (11, 0x01_03_04_0000000000000003)
    ∷ (11, 0x01_03_01_0000000000000005)
    ∷ (11, 0x01_03_02_0000000000000006)
    ∷ (11, 0x01_03_03_0000000000000001)
    -- a load by the secondary context, then by the primary one; a page of 64 KB around it; a store of one byte
    ∷ (13, 0x07_03_01_01_03_0000000000402008)
    ∷ (13, 0x07_03_01_00_03_0000000000402008)
    ∷ (12, 0x02_03_01_00_8000000000080441)
    ∷ (13, 0x07_03_02_00_00_000000000040200B)
    -- two of three lookups missed
    ∷ (3, 0x0A_03_01)
    -- tag access; the page goes, and the load misses again
    ∷ (3, 0x08_03_15)
    ∷ (13, 0x03_03_01_00_00_000000000040FFFF)
    ∷ (13, 0x07_03_01_00_03_0000000000402008)
    -- what mode 1 may not: a real entry, a locked one, demap all, partition, mode
    ∷ (12, 0x02_03_01_01_8000000000080441)
    ∷ (12, 0x02_03_01_02_8000000000080441)
    ∷ (3, 0x05_03_01)
    ∷ (11, 0x01_03_00_0000000000000001)
    ∷ (11, 0x01_03_03_0000000000000002)
    ∷ []

unfoldable pub guest_told : List ℕ
guest_told =
    done ∷ done ∷ done ∷ done
    ∷ 0x02_68_00_00_00000000_0000000000402008_0000000000402006
    ∷ 0x02_68_00_00_00000000_0000000000402008_0000000000402005
    ∷ done
    ∷ 0x01_01_00_01_00000000_000000000008200B_0000000000000000
    ∷ 0x03_00_00_00_00000000_000000000000029A_0000000000000000
    ∷ 0x03_00_00_00_00000000_0000000000402005_0000000000000000
    ∷ 0x00_00_00_00_00000000_0000000000000001_0000000000000000
    ∷ 0x02_68_00_00_00000000_0000000000402008_0000000000402005
    ∷ refused 16 ∷ refused 16 ∷ refused 16 ∷ refused 16 ∷ refused 16
    ∷ []

-- ---- document 01, insertion: strand 1 in partition 3
unfoldable pub crowds : List (ℕ × ℕ)
crowds =
    (11, 0x01_01_00_0000000000000003)
    -- a virtual page and a real one fill it; both are marked
    ∷ (11, 0x01_01_15_0000000000402005)
    ∷ (12, 0x02_01_01_00_8000000000080440)
    ∷ (11, 0x01_01_15_0000000000404006)
    ∷ (12, 0x02_01_01_01_8000000000082440)
    -- the next one clears the marks and takes slot 0; the one behind it, locked, slot 1, which has no mark; the third slot 0 again
    ∷ (11, 0x01_01_15_0000000000406007)
    ∷ (12, 0x02_01_01_00_8000000000084440)
    ∷ (11, 0x01_01_15_0000000000408008)
    ∷ (12, 0x02_01_01_02_8000000000086440)
    ∷ (11, 0x01_01_15_000000000040A009)
    ∷ (12, 0x02_01_01_02_8000000000088440)
    -- now both are locked: another page gets no slot, one around the last gets its slot
    ∷ (11, 0x01_01_15_000000000040C00A)
    ∷ (12, 0x02_01_01_00_800000000008A440)
    ∷ (11, 0x01_01_15_000000000040C009)
    ∷ (12, 0x02_01_01_00_8000000000090441)
    -- demap all leaves the locked page
    ∷ (3, 0x05_01_01)
    ∷ (3, 0x05_01_01)
    ∷ []

unfoldable pub crowds_told : List ℕ
crowds_told =
    done
    ∷ done ∷ done ∷ done ∷ done
    ∷ done ∷ 0x04_00_03_00_00000000_0000000000402005_8000000000080440
    ∷ done ∷ 0x04_00_03_01_00000000_0000000000404000_8000000000082440
    ∷ done ∷ 0x04_00_03_00_00000000_0000000000406007_8000000000084440
    ∷ done ∷ refused 13
    ∷ done ∷ done
    ∷ 0x00_00_00_00_00000000_0000000000000001_0000000000000000
    ∷ 0x00_00_00_00_00000000_0000000000000000_0000000000000000
    ∷ []

-- ---- the operands on the wire: one at a time does not fit, and the number says which
unfoldable pub misfits : List (ℕ × ℕ)
misfits =
    (11, 0x01_04_00_0000000000000000) ∷ (11, 0x01_00_06_0000000000000000) ∷ (11, 0x01_00_00_0000000000000008)
    ∷ (12, 0x02_04_00_00_0000000000000000) ∷ (12, 0x02_00_02_00_0000000000000000) ∷ (12, 0x02_00_00_04_0000000000000000)
    ∷ (12, 0x02_00_00_00_0000000000000000)
    ∷ (13, 0x03_04_00_00_00_0000000000000000) ∷ (13, 0x03_00_02_00_00_0000000000000000) ∷ (13, 0x03_00_00_03_00_0000000000000000)
    ∷ (13, 0x03_00_00_00_02_0000000000000000) ∷ (13, 0x03_00_00_00_00_0000800000000000)
    ∷ (4, 0x04_04_00_00) ∷ (4, 0x04_00_02_00) ∷ (4, 0x04_00_00_03)
    ∷ (3, 0x05_04_00) ∷ (3, 0x05_00_02)
    ∷ (2, 0x06_02)
    ∷ (13, 0x07_04_01_00_00_0000000000000000) ∷ (13, 0x07_00_05_00_00_0000000000000000) ∷ (13, 0x07_00_01_03_00_0000000000000000)
    ∷ (13, 0x07_00_01_00_04_0000000000000000)
    ∷ (3, 0x08_04_00) ∷ (3, 0x08_00_06)
    ∷ (3, 0x09_04_00) ∷ (3, 0x09_00_02)
    ∷ (3, 0x0A_04_00) ∷ (3, 0x0A_00_02)
    ∷ []

unfoldable pub misfits_told : List ℕ
misfits_told =
    refused 5 ∷ refused 9 ∷ refused 10
    ∷ refused 5 ∷ refused 6 ∷ refused 8 ∷ refused 12
    ∷ refused 5 ∷ refused 6 ∷ refused 7 ∷ refused 8 ∷ refused 11
    ∷ refused 5 ∷ refused 6 ∷ refused 7
    ∷ refused 5 ∷ refused 6
    ∷ refused 6
    ∷ refused 5 ∷ refused 6 ∷ refused 7 ∷ refused 8
    ∷ refused 5 ∷ refused 9
    ∷ refused 5 ∷ refused 6
    ∷ refused 5 ∷ refused 6
    ∷ []

-- ---- U5 and U6, the order: strand 1 is a user's by then; 16 comes behind 10 and before 11 to 13, 15 behind 16
unfoldable pub ordered : List (ℕ × ℕ)
ordered =
    (11, 0x01_01_15_0000800000000000)
    ∷ (12, 0x02_01_01_00_0000000000000000)
    ∷ (3, 0x0A_01_01)
    ∷ (11, 0x01_01_03_0000000000000000)
    ∷ (12, 0x02_01_01_00_0000000000000000)
    ∷ (13, 0x03_01_01_00_00_0000800000000000)
    ∷ (3, 0x0A_01_01)
    ∷ (11, 0x01_01_03_0000000000000003)
    ∷ (11, 0x01_01_16_0000000000000000)
    ∷ (3, 0x08_01_03)
    ∷ []

unfoldable pub ordered_told : List ℕ
ordered_told =
    done ∷ refused 11 ∷ refused 15 ∷ done ∷ refused 16 ∷ refused 16 ∷ refused 16 ∷ refused 10 ∷ refused 9
    ∷ 0x03_00_00_00_00000000_0000000000000000_0000000000000000
    ∷ []

-- ---- U3 and U4: bypasses into memory and into I/O space; there no nonfaulting load and no atomic
unfoldable pub bypasses : List (ℕ × ℕ)
bypasses =
    (13, 0x07_00_01_00_03_000001000000A010)
    ∷ (13, 0x07_00_01_00_03_000000800000A010)
    ∷ (13, 0x07_00_04_00_03_000000800000A010)
    ∷ (13, 0x07_00_03_00_03_000000800000A010)
    ∷ (13, 0x07_00_03_00_03_000000800000A011)
    ∷ (13, 0x07_00_04_00_03_000000000000A010)
    ∷ []

unfoldable pub bypasses_told : List ℕ
bypasses_told =
    0x01_01_00_0F_00000000_000000000000A010_0000000000000000
    ∷ 0x01_02_00_0F_00000000_000000800000A010_0000000000000000
    ∷ 0x02_30_02_00_00000000_000000800000A010_000000800000A000
    ∷ 0x02_30_04_00_00000000_000000800000A010_000000800000A000
    ∷ 0x02_34_00_00_00000000_000000800000A011_000000800000A000
    ∷ 0x01_01_00_0F_00000000_000000000000A010_0000000000000000
    ∷ []

-- ---- TSB pointers, by the registers for side 1 and a context that is not zero: a base with N 0 for pages of 8 KB, one with N 1 for 64 KB
unfoldable pub pointed : List (ℕ × ℕ)
pointed =
    (11, 0x01_01_0E_0000000010000000)
    ∷ (11, 0x01_01_0F_0000000020000001)
    ∷ (11, 0x01_01_13_0000000000000100)
    ∷ (11, 0x01_01_15_0000000000402005)
    ∷ (3, 0x09_01_01)
    ∷ []

unfoldable pub pointed_told : List ℕ
pointed_told = done ∷ done ∷ done ∷ done ∷ 0x03_00_00_00_00000000_0000000010000010_0000000020000400 ∷ []

-- ---- U1: a load of strand 2 by context 5 misses, the entry stands second in the table of the other contexts, and the load hits
unfoldable pub missing : List (ℕ × ℕ)
missing =
    (11, 0x01_02_04_0000000000000003)
    ∷ (11, 0x01_02_01_0000000000000005)
    ∷ (11, 0x01_02_03_0000000000000001)
    ∷ (13, 0x07_02_01_00_03_0000000000402008)
    ∷ []

unfoldable pub missing_told : List ℕ
missing_told = done ∷ done ∷ done ∷ 0x02_68_00_00_00000000_0000000000402008_0000000000402005 ∷ []

abbrev pub missed : List ℕ
missed = (run_on two_slots false (at_reset two_slots) missing missing_told).words

unfoldable pub table : Bytes
table = replicate 16 0 ++ (big_endian 16 0x0005000000000001_8000000000080440 ++ replicate 8160 0)

-- what serving strand 2 on side 1 answers
abbrev pub ServeAnswers : List ℕ → Bytes → Bytes → ℕ → Type 0
ServeAnswers words of_zero of_other told = answer_bytes (served_of two_slots words 2 1 of_zero of_other).answer ≡ big_endian 24 told

-- 14 comes before 11: the address in tag access is out of range, which an entry that fits meets
abbrev pub beyond : List ℕ
beyond = (run_on two_slots false (at_reset two_slots) ((11, 0x01_02_15_0000800000000000) ∷ []) (done ∷ [])).words

unfoldable pub table_beyond : Bytes
table_beyond = big_endian 16 0x0000000002000000_8000000000080440 ++ replicate 8176 0

-- ---- U2: pages of 8 KB, in slot 0 of partition 1, in slots 1 and 3 of partition 0, both in context 5; slot 2 is empty
abbrev pub page_of : ℕ → ℕ → Slot
page_of owner page = record { owner = owner; page = page; word = 0x8000_0000_0008_0440; flags = 0 }

unfoldable pub four_slots : List Slot
four_slots = page_of 0x4005 0x4000 ∷ page_of 0x0005 0x2000 ∷ no_slot ∷ page_of 0x0005 0x4000 ∷ []

pub record Runs : Type 0 where
  -- of the unit that is sold
  pub guest : RunAnswers counts false (at_reset counts) guest_sends guest_told
  pub insertions : RunAnswers two_slots false (at_reset two_slots) crowds crowds_told
  pub operands : RunAnswers two_slots false (at_reset two_slots) misfits misfits_told
  pub order : RunAnswers two_slots false (at_reset two_slots) ordered ordered_told
  -- an invalidation by either call
  pub unmarked : RunAnswers two_slots false (at_reset two_slots) ((2, 0x06_01) ∷ []) (refused 16 ∷ [])
  pub marked : RunAnswers two_slots true (at_reset two_slots) ((2, 0x06_01) ∷ []) (done ∷ [])
  pub bypass : RunAnswers two_slots false (at_reset two_slots) bypasses bypasses_told
  pub pointers : RunAnswers two_slots false (at_reset two_slots) pointed pointed_told
  pub miss : RunAnswers two_slots false (at_reset two_slots) missing missing_told
  pub absent : ServeAnswers missed [] (replicate 8192 0) (0x06 * 2 ^ 184)
  pub present : ServeAnswers missed [] table done
  pub hit : RunAnswers two_slots false (served_of two_slots missed 2 1 [] table).words ((13, 0x07_02_01_00_03_0000000000402008) ∷ [])
      (0x01_01_00_00_00000000_0000000000080008_0000000000000000 ∷ [])
  -- the stranger's page is not compared; nor is that of the empty slot, which looks like page 0 of partition 0, context 0
  pub stranger : searched (Virtual 0 5 (record { 0 = 0x4000 })) four_slots ≡ record { found = Some 3; compared = 2 }
  pub empty : searched (Virtual 0 0 (record { 0 = 0 })) four_slots ≡ record { found = None; compared = 0 }
  pub range : ServeAnswers beyond table_beyond [] (refused 11)
  pub size : ServeAnswers beyond (0 ∷ table_beyond) [] (refused 14)
