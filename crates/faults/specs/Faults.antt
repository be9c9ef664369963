-- The number of each fault of a file, its record and its place; and which fault of a whole book comes first.
use Rattle.std.specs.Prelude.{◌≡◌, ℕ, ◌<◌, ◌⊎◌, List, length, ◌++◌, Some, None, Option, codes, decimal}
use Rattle.sets.specs.Sets.{Part, Meet, One}
use Rattle.model.specs.Tasks.{Task, Has, Fits, action, group, bar}
use Rattle.faults.specs.declared.Record.{Record}
use Rattle.faults.specs.declared.Record.TheVariants.{Head, Action, Group, Bar}
use Rattle.faults.specs.declared.FieldFault.{FieldFault}
use Rattle.faults.specs.declared.FieldFault.TheVariants.{CutShort, OutOfLimits, UnknownBit, EmptySet, UnknownFact}
use Rattle.faults.specs.declared.Fault.{Fault}
use Rattle.faults.specs.declared.Fault.TheVariants.{Field, BytesLeft, AddsAndDeletes, SharedGroup, NotOneAtStart, BrokenGroup, BarAtStart}

-- the number of a fault of one field
abbrev pub field_number : FieldFault → ℕ
field_number (CutShort at) = 1
field_number (OutOfLimits at) = 2
field_number (UnknownBit at) = 3
field_number (EmptySet at) = 4
field_number (UnknownFact at) = 5

-- the first byte of the field
abbrev pub field_byte : FieldFault → ℕ
field_byte (CutShort at) = at
field_byte (OutOfLimits at) = at
field_byte (UnknownBit at) = at
field_byte (EmptySet at) = at
field_byte (UnknownFact at) = at

-- the number that a refused book is refused by
abbrev pub fault_number : Fault → ℕ
fault_number (Field r f) = field_number f
fault_number (BytesLeft at) = 6
fault_number (AddsAndDeletes a) = 7
fault_number (SharedGroup g) = 8
fault_number (NotOneAtStart g) = 9
fault_number (BrokenGroup a) = 10
fault_number (BarAtStart i) = 11

-- the record at fault
abbrev pub fault_record : Fault → Record
fault_record (Field r f) = r
fault_record (BytesLeft at) = Head
fault_record (AddsAndDeletes a) = Action a
fault_record (SharedGroup g) = Group g
fault_record (NotOneAtStart g) = Group g
fault_record (BrokenGroup a) = Action a
fault_record (BarAtStart i) = Bar i

-- how a record is printed
abbrev pub record_text : Record → List ℕ
record_text Head = codes "head"
record_text (Action i) = codes "action " ++ decimal i
record_text (Group i) = codes "group " ++ decimal i
record_text (Bar i) = codes "bar " ++ decimal i

-- the first byte of the field at fault, for the numbers 1 to 6
abbrev pub fault_byte : Fault → Option ℕ
fault_byte (Field r f) = Some (field_byte f)
fault_byte (BytesLeft at) = Some at
fault_byte (AddsAndDeletes a) = None
fault_byte (SharedGroup g) = None
fault_byte (NotOneAtStart g) = None
fault_byte (BrokenGroup a) = None
fault_byte (BarAtStart i) = None

-- which action, group or bar a record is
abbrev pub place : Record → ℕ
place Head = 0
place (Action i) = i
place (Group i) = i
place (Bar i) = i

-- the fault is one of the whole book's: an action adds and deletes a fact; a group shares a fact with an earlier one;
-- a group has not exactly one fact in the initial set; an action does not fit a group; the initial set has a whole bar
abbrev pub Breaks : Task → Fault → Type 0
Breaks b (Field r f) = ⊥
Breaks b (BytesLeft at) = ⊥
Breaks b (AddsAndDeletes a) = Has b a × Meet (action b a).adds (action b a).deletes
Breaks b (SharedGroup g) = (g < length b.groups) × ((h : ℕ) × (h < g) × Meet (group b h) (group b g))
Breaks b (NotOneAtStart g) = (g < length b.groups) × (One b.initial (group b g) → ⊥)
Breaks b (BrokenGroup a) = Has b a × ((g : ℕ) × (g < length b.groups) × (Fits (action b a) (group b g) → ⊥))
Breaks b (BarAtStart i) = (i < length b.bars) × Part (bar b i) b.initial

-- e has the smaller number, or the same and the lower record
abbrev pub Earlier : Fault → Fault → Type 0
Earlier e f = (fault_number e < fault_number f) ⊎ ((fault_number e ≡ fault_number f) × (place (fault_record e) < place (fault_record f)))

-- the first fault of the whole book
abbrev pub FirstBroken : Task → Fault → Type 0
FirstBroken b f = Breaks b f × ((e : Fault) → Breaks b e → Earlier e f → ⊥)
