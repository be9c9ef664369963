-- The format of a book's file: what its bytes say, read from front to back, or the first field at fault.
use Rattle.std.specs.Prelude.{◌≡◌, ℕ, zero, suc, ◌+◌, ◌/◌, ◌%◌, ◌^◌, Bool, true, false, cond, ◌&&◌, List, [], ◌∷◌, length, take, drop, Ok, Err, Result, ◌==◌, nat_le, nat_lt, slice_index}
use Rattle.std.specs.Int.{w64, from_le_bytes}
use Rattle.std.specs.Result.{result_map_both}
use Rattle.model.specs.declared.Action.{Action}
use Rattle.faults.specs.declared.Record.{Record}
use Rattle.faults.specs.declared.Record.TheVariants.{Head, Action as InAction, Group as InGroup, Bar as InBar}
use Rattle.faults.specs.declared.FieldFault.{FieldFault}
use Rattle.faults.specs.declared.FieldFault.TheVariants.{CutShort, OutOfLimits, UnknownBit, EmptySet, UnknownFact}
use Rattle.faults.specs.declared.Fault.{Fault}
use Rattle.faults.specs.declared.Fault.TheVariants.{Field, BytesLeft}
use Rattle.reader.specs.declared.records.Counts.{Counts}
use Rattle.reader.specs.declared.records.Ends.{Ends}
use Rattle.reader.specs.declared.cursor.Reader.{Reader}
use Rattle.book.specs.declared.outline.Outline.{Outline}

-- a value with the place of the byte after it, or a fault
abbrev pub Read : Type 0 → Type 0 → Type 0
Read A E = Result (A × ℕ) E

-- one read after another; a fault of the first is the fault of both, as `wrap` says it
abbrev pub follow : {A B E F : Type 0} → (E → F) → Read A E → (A → ℕ → Read B F) → Read B F
follow wrap (Ok (x, p)) rest = rest x p
follow wrap (Err e) rest = Err (wrap e)

-- the same within one layer
abbrev pub then : {A B E : Type 0} → Read A E → (A → ℕ → Read B E) → Read B E
then r rest = follow (λ e. e) r rest

-- what a call of the reader answers, with the place where it left the reader
abbrev pub with_place : {A E : Type 0} → Result A E → ℕ → Read A E
with_place (Ok x) p = Ok (x, p)
with_place (Err e) p = Err e

-- the call read this of the file, and left the reader at the byte after it
abbrev pub Took : {A E : Type 0} → (List ℕ → ℕ → Read A E) → Reader → Result A E → Reader → Type 0
Took read before result after = (after.bytes.now ≡ before.bytes.now) × (with_place result after.pos ≡ read before.bytes.now before.pos)

-- ---- fields

abbrev pub read_byte : List ℕ → ℕ → Read ℕ FieldFault
read_byte bs p = cond (nat_lt p (length bs)) (Ok (slice_index bs p, p + 1)) (Err (CutShort p))

-- a byte from low to high
abbrev pub read_count : ℕ → ℕ → List ℕ → ℕ → Read ℕ FieldFault
read_count low high bs p = then (read_byte bs p) λ n q. cond (nat_le low n && nat_le n high) (Ok (n, q)) (Err (OutOfLimits p))

-- a byte of which only bits below the limit have a meaning
abbrev pub read_map : ℕ → List ℕ → ℕ → Read ℕ FieldFault
read_map limit bs p = then (read_byte bs p) λ map q. cond (nat_lt map limit) (Ok (map, q)) (Err (UnknownBit p))

-- eight bytes, the lowest first
abbrev pub word : List ℕ → ℕ → ℕ
word bs p = from_le_bytes w64 (take 8 (drop p bs))

-- a set of facts below their number that is not empty
abbrev pub read_set : ℕ → List ℕ → ℕ → Read ℕ FieldFault
read_set facts bs p =
    cond (nat_lt (length bs) (p + 8)) (Err (CutShort p))
    (cond (word bs p == 0) (Err (EmptySet p))
    (cond (nat_lt (word bs p) (2 ^ facts)) (Ok (word bs p, p + 8)) (Err (UnknownFact p))))

-- a set whose bit is absent is empty and has no bytes
abbrev pub read_optional : Bool → ℕ → List ℕ → ℕ → Read ℕ FieldFault
read_optional true facts bs p = read_set facts bs p
read_optional false facts bs p = Ok (0, p)

-- ---- records

-- the four counts: facts, actions, groups and bars
abbrev pub read_counts : List ℕ → ℕ → Read Counts FieldFault
read_counts bs p =
    then (read_count 1 64 bs p) λ facts p1.
    then (read_count 0 64 bs p1) λ actions p2.
    then (read_count 0 16 bs p2) λ groups p3.
    then (read_count 0 8 bs p3) λ bars p4.
    Ok (record { facts = facts; actions = actions; groups = groups; bars = bars }, p4)

-- bit value 1 is the initial set, 2 the goal
abbrev pub read_ends : ℕ → List ℕ → ℕ → Read Ends FieldFault
read_ends facts bs p =
    then (read_map 4 bs p) λ map p1.
    then (read_optional (map % 2 == 1) facts bs p1) λ initial p2.
    then (read_optional (map / 2 == 1) facts bs p2) λ goal p3.
    Ok (record { initial = initial; goal = goal }, p3)

-- bit value 1 is what the action needs, 2 what it adds, 4 what it deletes
abbrev pub read_action : ℕ → List ℕ → ℕ → Read Action FieldFault
read_action facts bs p =
    then (read_map 8 bs p) λ map p1.
    then (read_optional (map % 2 == 1) facts bs p1) λ needs p2.
    then (read_optional (map / 2 % 2 == 1) facts bs p2) λ adds p3.
    then (read_optional (map / 4 == 1) facts bs p3) λ deletes p4.
    Ok (record { needs = needs; adds = adds; deletes = deletes }, p4)

-- ---- the book

-- n records one after the other, the first of them the i-th of its kind; a fault says in which of them it is
abbrev pub read_many : {A : Type 0} → (List ℕ → ℕ → Read A FieldFault) → ℕ → ℕ → List ℕ → ℕ → Read (List A) (ℕ × FieldFault)
read_many one zero i bs p = Ok ([], p)
read_many one (suc n) i bs p =
    follow (λ e. (i, e)) (one bs p) λ x q. then (read_many one n (i + 1) bs q) λ rest e. Ok (x ∷ rest, e)

-- the fault of a record of this kind
abbrev pub fault_in : (ℕ → Record) → ℕ × FieldFault → Fault
fault_in kind e = Field (kind e.0) e.1

-- no byte is left
abbrev pub read_end : List ℕ → ℕ → Read (Unit {0}) Fault
read_end bs p = cond (nat_lt p (length bs)) (Err (BytesLeft p)) (Ok (tt, p))

-- the counts, the head record, the actions, the groups and the bars, and no byte after them
abbrev pub read_outline : List ℕ → ℕ → Read Outline Fault
read_outline bs p =
    follow (Field Head) (read_counts bs p) λ n p1.
    follow (Field Head) (read_ends n.facts bs p1) λ ends p2.
    follow (fault_in InAction) (read_many (read_action n.facts) n.actions 0 bs p2) λ actions p3.
    follow (fault_in InGroup) (read_many (read_set n.facts) n.groups 0 bs p3) λ groups p4.
    follow (fault_in InBar) (read_many (read_set n.facts) n.bars 0 bs p4) λ bars p5.
    then (read_end bs p5) λ _ p6.
    Ok (
      record {
        facts = n.facts;
        initial = ends.initial;
        goal = ends.goal;
        actions = actions;
        groups = groups;
        bars = bars;
      },
      p6,
    )

-- what the bytes of a file say
abbrev pub outline_of : List ℕ → Result Outline Fault
outline_of bs = result_map_both (λ x. x.0) (λ e. e) (read_outline bs 0)
