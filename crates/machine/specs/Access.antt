-- Document 01, "Access": prepare (the mask, steps 1 to 4), lookup (5), judge (6 and 7), translate (8), settle (used bit and registers).
-- Assumes nothing.
use Rattle.std.specs.Prelude.{ℕ, ◌+◌, ◌*◌, ◌%◌, ◌^◌, not, cond, ◌&&◌, ◌||◌, List, eqb, ltb, get_or, Some, None, Ok, Err, Option, Result}
use Rattle.machine.specs.Pages.{in_range, bypassed}
use Rattle.machine.specs.Words.{bits, physical_by}
use Rattle.machine.specs.Slots.{no_slot, Looked, hit, miss, lookup, set_used}
use Rattle.machine.specs.Registers.{register, with_register, partition, mode, translates, address_mask, selected}
use Rattle.machine.specs.Registers.{tag_number, tag_of, fault_address_number, fault_number}
use Rattle.machine.specs.Questions.{kind_side, key_of}
use Rattle.machine.specs.Record.{record_of, noted}
use Rattle.machine.specs.State.{State, side_of, with_side, with_registers, with_records}
use Rattle.machine.specs.declared.Slot.{Slot}
use Rattle.machine.specs.declared.Key.{Key}
use Rattle.machine.specs.declared.VirtualAddress.{VirtualAddress}
use Rattle.machine.specs.declared.Trap.{Trap}
use Rattle.machine.specs.declared.Trap.TheVariants as trap
use Rattle.machine.specs.declared.Reach.{Reach}
use Rattle.machine.specs.declared.Translation.{Translation}
use Rattle.machine.specs.declared.Access.{Access}
use Rattle.machine.specs.declared.Prepared.{Prepared}
use Rattle.machine.specs.declared.Prepared.TheVariants as prepared
use Rattle.machine.specs.declared.Answer.{Answer}
use Rattle.machine.specs.declared.Answer.TheVariants as answer

-- before step 1: with the address mask on, modes 0 and 1 use only the low 32 bits of an address
abbrev pub address_used : List ℕ → ℕ → VirtualAddress → VirtualAddress
address_used file strand a = record { 0 = cond (eqb (address_mask file strand) 1 && ltb (mode file strand) 2) (a.0 % 2 ^ 32) a.0 }

-- an access by its operands: the side of its kind, and the address used
abbrev pub access_of : List ℕ → ℕ → ℕ → ℕ → ℕ → VirtualAddress → Access
access_of file strand kind selector size address = record {
  strand = strand;
  kind = kind;
  side = kind_side kind;
  selector = selector;
  size = size;
  used = address_used file strand address;
}

-- ---- prepare
-- the trap of steps 4 and 6: 0x08 for a fetch, 0x30 for data
abbrev pub exception : ℕ → ℕ → Trap
exception kind fault = cond (eqb kind 0) (trap.InstructionAccessException fault) (trap.DataAccessException fault)

-- the context that a trap of steps 4 to 7 leaves in tag access ("Access", last paragraph): the one selected; 0 while translation is off
abbrev pub trap_tag : List ℕ → Access → Option ℕ
trap_tag file a = Some (cond (translates file a.strand a.side) (selected file a.strand a.selector) 0)

-- step 3: the attributes of a bypass go by bit 39: cp alone (1) where it is 0, e alone (2) where it is 1. It has no page, which 15 says (U3)
abbrev pub bypass_to : VirtualAddress → Translation
bypass_to a = record { address = bypassed a; attributes = cond (eqb (bits 39 1 a.0) 0) 1 2; code = 15 }

-- and as document 02's U4 amends it: I/O space, where bit 39 is 1, takes no nonfaulting load and no atomic. Their traps leave context 0 in tag access,
-- whatever is selected and also while translation is on
abbrev pub prepare_bypass : ℕ → VirtualAddress → Prepared
prepare_bypass kind a =
    cond (eqb (bits 39 1 a.0) 0) (prepared.Bypass (bypass_to a))
    (cond (eqb kind 4) (prepared.Stopped (trap.DataAccessException 0x02) (Some 0))
    (cond (eqb kind 3) (prepared.Stopped (trap.DataAccessException 0x04) (Some 0))
    (prepared.Bypass (bypass_to a))))

-- step 5: what is looked up. With translation off the key is real, and asks for no context
abbrev pub lookup_key : List ℕ → Access → Key
lookup_key file a =
    key_of (not (translates file a.strand a.side)) (partition file a.strand) (selected file a.strand a.selector) a.used

unfoldable pub prepare : List ℕ → Access → Prepared
prepare file a =
    -- 1. an address that is not aligned
    cond (not (eqb (a.used.0 % 2 ^ a.size) 0)) (prepared.Stopped trap.AddressNotAligned None)
    -- 2. a user asks for data of the nucleus
    (cond (eqb (mode file a.strand) 0 && (not (eqb a.kind 0) && eqb a.selector 2)) (prepared.Stopped trap.PrivilegedAction None)
    -- 3. mode 2 does not translate
    (cond (eqb (mode file a.strand) 2) (prepare_bypass a.kind a.used)
    -- 4. an address out of range has fault type 0x20
    (cond (not (in_range a.used.0)) (prepared.Stopped (exception a.kind 0x20) (trap_tag file a))
    -- 5. all others look up
    prepared.Lookup)))

-- step 5 with no entry found: the trap goes by the kind of address looked up and by the side
abbrev pub miss_trap : List ℕ → Access → Trap
miss_trap file a =
    cond (translates file a.strand a.side)
    (cond (eqb a.kind 0) trap.InstructionMiss trap.DataMiss)
    (cond (eqb a.kind 0) trap.InstructionRealMiss trap.DataRealMiss)

-- ---- judge
-- step 6, line by line: p against users; e against nonfaulting loads; cp clear against atomics; nfo against all but nonfaulting loads
unfoldable pub fault_type : ℕ → ℕ → ℕ → ℕ
fault_type mode kind word =
    cond (eqb (bits 8 1 word) 1 && eqb mode 0) 0x01 0
    + cond (eqb kind 4 && eqb (bits 11 1 word) 1) 0x02 0
    + cond (eqb kind 3 && eqb (bits 10 1 word) 0) 0x04 0
    + cond (eqb (bits 62 1 word) 1 && not (eqb kind 4)) 0x10 0

unfoldable pub judge : List ℕ → Access → ℕ → Result (Unit {0}) Trap
judge file a word =
    let fault : ℕ = fault_type (mode file a.strand) a.kind word in
    -- 6. any fault type stops the access
    cond (not (eqb fault 0)) (Err (exception a.kind fault))
    -- 7. a store or an atomic needs w
    (cond ((eqb a.kind 2 || eqb a.kind 3) && eqb (bits 6 1 word) 0) (Err trap.DataProtection) (Ok tt))

-- ---- translate
-- byte a of a physical answer ("The stream"): cp counts 1, e 2, ie 4
abbrev pub attributes_of : ℕ → ℕ
attributes_of word = bits 10 1 word + 2 * bits 11 1 word + 4 * bits 12 1 word

-- step 8: the physical address and byte c (document 02, U3) both come from the one match
abbrev pub translated_by : ℕ → Reach → Translation
translated_by word r = record { address = physical_by word r; attributes = attributes_of word; code = r.code }

-- ---- settle
-- the number that "Access" gives to a trap
abbrev pub trap_number : Trap → ℕ
trap_number (trap.InstructionAccessException fault) = 0x08
trap_number (trap.DataAccessException fault) = 0x30
trap_number trap.AddressNotAligned = 0x34
trap_number trap.PrivilegedAction = 0x37
trap_number trap.InstructionRealMiss = 0x3E
trap_number trap.DataRealMiss = 0x3F
trap_number trap.InstructionMiss = 0x64
trap_number trap.DataMiss = 0x68
trap_number trap.DataProtection = 0x6C

-- and its fault type; only access exceptions carry one
abbrev pub trap_fault : Trap → ℕ
trap_fault (trap.InstructionAccessException fault) = fault
trap_fault (trap.DataAccessException fault) = fault
trap_fault trap.AddressNotAligned = 0
trap_fault trap.PrivilegedAction = 0
trap_fault trap.InstructionRealMiss = 0
trap_fault trap.DataRealMiss = 0
trap_fault trap.InstructionMiss = 0
trap_fault trap.DataMiss = 0
trap_fault trap.DataProtection = 0

abbrev pub with_tag : List ℕ → ℕ → ℕ → ℕ → Option ℕ → List ℕ
with_tag file strand side address None = file
with_tag file strand side address (Some context) = with_register file strand (tag_number side) (tag_of address context)

-- "Access", last paragraph: a trap sets fault address (22) and fault (24) of its side, and tag access where it is not kept
unfoldable pub trap_registers : List ℕ → Access → Trap → Option ℕ → List ℕ
trap_registers file a t tag =
    with_tag
    (with_register
    (with_register file a.strand (fault_address_number a.side) a.used.0)
    a.strand (fault_number a.side) (trap_number t * 256 + trap_fault t))
    a.strand a.side a.used.0 tag

pub record Stepped : Type 0 where
  pub state : State
  pub answer : Answer

abbrev pub stepped : State → Answer → Stepped
stepped u a = record { state = u; answer = a }

-- a trap's answer names the tag access after it
abbrev pub trap_to : State → Access → Trap → Option ℕ → Stepped
trap_to u a t tag =
    let file : List ℕ = trap_registers u.registers a t tag in
    stepped (with_registers u file)
    (answer.Trap (record { trap = t; address = a.used; tag = register file a.strand (tag_number a.side) }))

abbrev pub settle_judged : State → Access → Translation → Result (Unit {0}) Trap → Stepped
settle_judged u a p (Err t) = trap_to u a t (trap_tag u.registers a)
settle_judged u a p (Ok _) = stepped u (answer.Physical p)

-- step 6: a hit has its used bit set (document 01: it is marked), whatever its word then says; a miss sets none
abbrev pub settle_looked : State → Access → Looked → Stepped
settle_looked u a miss = trap_to u a (miss_trap u.registers a) (trap_tag u.registers a)
settle_looked u a (hit i r) =
    let s : List Slot = side_of u a.side in
    let word : ℕ = (get_or s i no_slot).word in
    settle_judged (with_side u a.side (set_used i s)) a (translated_by word r) (judge u.registers a word)

-- document 02, U5: with an entry found it is no miss, whatever the word then says
abbrev pub missed : Looked → ℕ
missed miss = 1
missed (hit i r) = 0

-- the outcome is noted for the strand and side of the access
abbrev pub outcome_noted : Access → ℕ → Stepped → Stepped
outcome_noted a outcome s = stepped (with_records s.state (noted (record_of a.strand a.side) outcome s.state.records)) s.answer

abbrev pub settle : State → Access → Prepared → Stepped
settle u a (prepared.Stopped t tag) = trap_to u a t tag
settle u a (prepared.Bypass p) = stepped u (answer.Physical p)
settle u a prepared.Lookup =
    let found : Looked = lookup (lookup_key u.registers a) (side_of u a.side) in
    outcome_noted a (missed found) (settle_looked u a found)

abbrev pub access_to : State → Access → Stepped
access_to u a = settle u a (prepare u.registers a)
