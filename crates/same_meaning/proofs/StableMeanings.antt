-- What a file means isn't different where it is the same: this is told of all of its parts, from numbers on.
use Rattle.std.proofs.Common.{◌≡◌, ◌∙◌, ℕ, ℤ, pos, List, [], ◌∷◌, Bool, false, ap, sym, refl}
use Rattle.std.specs.Prelude.{slice_index_or}
use Rattle.line_machine.specs.declared.registers.Row.{Row}
use Rattle.line_write.specs.Meaning.{ProgramMeaning}
use Rattle.expr_ops.specs.Expressions.{Operation}
use Rattle.form_codec.specs.Forms.{Meaning}
use Rattle.form_codec.specs.Forms.Meaning.{Address, AddressNumber, Whole, Bits, SixteenBytes, IsSet, Data, Expression, InUnit, InSection, TypeSignature, InSup, Text, StringPlace, LineStringPlace, SupStringPlace, StringNumber, SectionPlace, LocationList, RangeList}
use Rattle.entry_arena.specs.declared.entry.Target.{Target}
use Rattle.entry_arena.specs.declared.entry.Target.TheVariants.{Entry as TheEntry, ChainEnd as TheEnd}
use Rattle.list_model.specs.declared.entry.ListKind.{ListKind}
use Rattle.list_model.specs.declared.entry.ListKind.TheVariants.{Ranges, Locations}
use Rattle.list_model.specs.declared.entry.EntryKind.{EntryKind}
use Rattle.list_model.specs.declared.entry.EntryKind.TheVariants.{BaseAddressx, StartxEndx, StartxLength, OffsetPair, DefaultLocation, BaseAddress, StartEnd, StartLength}
use Rattle.list_model.specs.Entries.{Entry}
use Rattle.list_model.specs.Items.{Bounds}
use Rattle.list_model.specs.Items.Bounds.{between, elsewhere}
use Rattle.loc_lists.specs.declared.views.ViewPair.{ViewPair}
use Rattle.value_links.specs.Operations.{OpTarget, LinkedOperation}
use Rattle.value_links.specs.Operations.OpTarget.{NoTarget, GenericType, AnEntry}
use Rattle.value_links.specs.Resolved.{Content, ListMeaning, Resolved}
use Rattle.value_links.specs.Resolved.Content.{Items, Entries}
use Rattle.value_links.specs.Resolved.Resolved.{Itself, Operates, Refers, Program, AList, Indexed, PartOf, Pairs, Kept}
use Rattle.value_links.specs.Debug.{EntryMeaning, SetMeaning, PartMeaning}
use Rattle.same_meaning.proofs.Stable.{IsStable, through, stable_nat, stable_bool, stable_int, stable_list, stable_pair}

-- what can be told from things that are told so
told_from : {A B : Type 0} (f : A → B) (g : B → A) → ((x : A) → g (f x) ≡ x) → IsStable B → IsStable A
told_from f g back each x y same = sym (back x) ∙ ap g (each (f x) (f y) (through f same)) ∙ back y

-- PROGRAMS

stable_row : IsStable Row
stable_row x y same =
    let address = stable_nat x.address y.address (through (λ (r : Row). r.address) same) in
    let line = stable_nat x.line y.line (through (λ (r : Row). r.line) same) in
    let file = stable_nat x.file y.file (through (λ (r : Row). r.file) same) in
    let column = stable_nat x.column y.column (through (λ (r : Row). r.column) same) in
    let isa = stable_nat x.isa y.isa (through (λ (r : Row). r.isa) same) in
    let discriminator = stable_nat x.discriminator y.discriminator (through (λ (r : Row). r.discriminator) same) in
    let stmt = stable_bool x.stmt y.stmt (through (λ (r : Row). r.stmt) same) in
    let block = stable_bool x.block y.block (through (λ (r : Row). r.block) same) in
    let prologue = stable_bool x.prologue y.prologue (through (λ (r : Row). r.prologue) same) in
    let epilogue = stable_bool x.epilogue y.epilogue (through (λ (r : Row). r.epilogue) same) in
    let end = stable_bool x.end y.end (through (λ (r : Row). r.end) same) in
    λ i. record { address = address i; line = line i; file = file i; column = column i; isa = isa i; discriminator = discriminator i; stmt = stmt i; block = block i; prologue = prologue i; epilogue = epilogue i; end = end i }

pub stable_program : IsStable ProgramMeaning
stable_program x y same =
    let min = stable_nat x.min y.min (through (λ (p : ProgramMeaning). p.min) same) in
    let is_stmt = stable_nat x.is_stmt y.is_stmt (through (λ (p : ProgramMeaning). p.is_stmt) same) in
    let tables = stable_list stable_nat x.tables y.tables (through (λ (p : ProgramMeaning). p.tables) same) in
    let rows = stable_list stable_row x.rows y.rows (through (λ (p : ProgramMeaning). p.rows) same) in
    λ i. record { min = min i; is_stmt = is_stmt i; tables = tables i; rows = rows i }

-- EXPRESSIONS

stable_operation : IsStable Operation
stable_operation x y same =
    let code = stable_nat x.code y.code (through (λ (o : Operation). o.code) same) in
    let a = stable_nat x.a y.a (through (λ (o : Operation). o.a) same) in
    let s = stable_int x.s y.s (through (λ (o : Operation). o.s) same) in
    let block = stable_list stable_nat x.block y.block (through (λ (o : Operation). o.block) same) in
    let jump = stable_nat x.jump y.jump (through (λ (o : Operation). o.jump) same) in
    let inner = stable_nat x.inner y.inner (through (λ (o : Operation). o.inner) same) in
    λ i. record { code = code i; a = a i; s = s i; block = block i; jump = jump i; inner = inner i }

abbrev targets : ℕ × (ℕ × ℕ) → List OpTarget
targets p = NoTarget ∷ GenericType ∷ AnEntry p.1.0 p.1.1 ∷ []

abbrev target_numbers : OpTarget → ℕ × (ℕ × ℕ)
target_numbers NoTarget = (0, (0, 0))
target_numbers GenericType = (1, (0, 0))
target_numbers (AnEntry u id) = (2, (u, id))

target_back : (x : OpTarget) → slice_index_or (targets (target_numbers x)) (target_numbers x).0 NoTarget ≡ x
target_back NoTarget = refl
target_back GenericType = refl
target_back (AnEntry u id) = refl

stable_op_target : IsStable OpTarget
stable_op_target = told_from target_numbers (λ p. slice_index_or (targets p) p.0 NoTarget) target_back (stable_pair stable_nat (stable_pair stable_nat stable_nat))

stable_linked : IsStable LinkedOperation
stable_linked x y same =
    let operation = stable_operation x.operation y.operation (through (λ (o : LinkedOperation). o.operation) same) in
    let target = stable_op_target x.target y.target (through (λ (o : LinkedOperation). o.target) same) in
    λ i. record { operation = operation i; target = target i }

-- LISTS

stable_kind : IsStable ListKind
stable_kind Ranges Ranges same = refl
stable_kind Locations Locations same = refl
stable_kind x y same = absurd (same (λ e. cc))

stable_bounds : IsStable Bounds
stable_bounds elsewhere elsewhere same = refl
stable_bounds (between a b) (between c d) same =
    let e : a ≡ c = stable_nat a c (λ differ. same (λ is. differ (cc))) in
    let f : b ≡ d = stable_nat b d (λ differ. same (λ is. differ (cc))) in
    cc
stable_bounds x y same = absurd (same (λ e. cc))

abbrev entry_kinds : List EntryKind
entry_kinds = BaseAddressx ∷ StartxEndx ∷ StartxLength ∷ OffsetPair ∷ DefaultLocation ∷ BaseAddress ∷ StartEnd ∷ StartLength ∷ []

abbrev entry_kind_number : EntryKind → ℕ
entry_kind_number BaseAddressx = 0
entry_kind_number StartxEndx = 1
entry_kind_number StartxLength = 2
entry_kind_number OffsetPair = 3
entry_kind_number DefaultLocation = 4
entry_kind_number BaseAddress = 5
entry_kind_number StartEnd = 6
entry_kind_number StartLength = 7

entry_kind_back : (x : EntryKind) → slice_index_or entry_kinds (entry_kind_number x) StartLength ≡ x
entry_kind_back BaseAddressx = refl
entry_kind_back StartxEndx = refl
entry_kind_back StartxLength = refl
entry_kind_back OffsetPair = refl
entry_kind_back DefaultLocation = refl
entry_kind_back BaseAddress = refl
entry_kind_back StartEnd = refl
entry_kind_back StartLength = refl

stable_list_entry : IsStable Entry
stable_list_entry x y same =
    let kind = told_from entry_kind_number (λ n. slice_index_or entry_kinds n StartLength) entry_kind_back stable_nat x.kind y.kind (through (λ (e : Entry). e.kind) same) in
    let a = stable_nat x.a y.a (through (λ (e : Entry). e.a) same) in
    let b = stable_nat x.b y.b (through (λ (e : Entry). e.b) same) in
    λ i. record { kind = kind i; a = a i; b = b i }

stable_content : IsStable Content
stable_content (Items xs) (Items ys) same = ap Items (stable_list stable_bounds xs ys (λ differ. same (λ e. differ (cc))))
stable_content (Entries xs) (Entries ys) same = ap Entries (stable_list stable_list_entry xs ys (λ differ. same (λ e. differ (cc))))
stable_content x y same = absurd (same (λ e. cc))

stable_list_meaning : IsStable ListMeaning
stable_list_meaning x y same =
    let kind = stable_kind x.kind y.kind (through (λ (l : ListMeaning). l.kind) same) in
    let content = stable_content x.content y.content (through (λ (l : ListMeaning). l.content) same) in
    let expressions = stable_list (stable_list stable_linked) x.expressions y.expressions (through (λ (l : ListMeaning). l.expressions) same) in
    λ i. record { kind = kind i; content = content i; expressions = expressions i }

pub stable_part : IsStable PartMeaning
stable_part x y same =
    let slots = stable_list stable_list_meaning x.slots y.slots (through (λ (p : PartMeaning). p.slots) same) in
    λ i. record { slots = slots i }

-- VALUES

stable_target : IsStable Target
stable_target (TheEntry m) (TheEntry n) same = ap TheEntry (stable_nat m n (λ differ. same (λ e. differ (cc))))
stable_target (TheEnd m) (TheEnd n) same = ap TheEnd (stable_nat m n (λ differ. same (λ e. differ (cc))))
stable_target x y same = absurd (same (λ e. cc))

stable_views : IsStable ViewPair
stable_views x y same =
    let first = stable_nat x.first y.first (through (λ (v : ViewPair). v.first) same) in
    let last = stable_nat x.last y.last (through (λ (v : ViewPair). v.last) same) in
    λ i. record { first = first i; last = last i }

-- which of its kinds a value is, and what stands in it
record MeaningParts : Type 0 where
  which : ℕ
  n : ℕ
  m : ℕ
  bytes : List ℕ
  whole : ℤ
  is : Bool

abbrev of_number : ℕ → ℕ → ℕ → MeaningParts
of_number which n m = record { which = which; n = n; m = m; bytes = []; whole = pos 0; is = false }

abbrev of_bytes : ℕ → List ℕ → MeaningParts
of_bytes which bytes = record { which = which; n = 0; m = 0; bytes = bytes; whole = pos 0; is = false }

stable_meaning_parts : IsStable MeaningParts
stable_meaning_parts x y same =
    let which = stable_nat x.which y.which (through (λ (p : MeaningParts). p.which) same) in
    let n = stable_nat x.n y.n (through (λ (p : MeaningParts). p.n) same) in
    let m = stable_nat x.m y.m (through (λ (p : MeaningParts). p.m) same) in
    let bytes = stable_list stable_nat x.bytes y.bytes (through (λ (p : MeaningParts). p.bytes) same) in
    let whole = stable_int x.whole y.whole (through (λ (p : MeaningParts). p.whole) same) in
    let is = stable_bool x.is y.is (through (λ (p : MeaningParts). p.is) same) in
    λ i. record { which = which i; n = n i; m = m i; bytes = bytes i; whole = whole i; is = is i }

abbrev meaning_parts : Meaning → MeaningParts
meaning_parts (Address n) = of_number 0 n 0
meaning_parts (AddressNumber n) = of_number 1 n 0
meaning_parts (Whole z) = record { which = 2; n = 0; m = 0; bytes = []; whole = z; is = false }
meaning_parts (Bits n m) = of_number 3 n m
meaning_parts (SixteenBytes bytes) = of_bytes 4 bytes
meaning_parts (IsSet b) = record { which = 5; n = 0; m = 0; bytes = []; whole = pos 0; is = b }
meaning_parts (Data bytes) = of_bytes 6 bytes
meaning_parts (Expression bytes) = of_bytes 7 bytes
meaning_parts (InUnit n) = of_number 8 n 0
meaning_parts (InSection n) = of_number 9 n 0
meaning_parts (TypeSignature n) = of_number 10 n 0
meaning_parts (InSup n m) = of_number 11 n m
meaning_parts (Text bytes) = of_bytes 12 bytes
meaning_parts (StringPlace n) = of_number 13 n 0
meaning_parts (LineStringPlace n) = of_number 14 n 0
meaning_parts (SupStringPlace n) = of_number 15 n 0
meaning_parts (StringNumber n) = of_number 16 n 0
meaning_parts (SectionPlace n) = of_number 17 n 0
meaning_parts (LocationList n) = of_number 18 n 0
meaning_parts (RangeList n) = of_number 19 n 0

abbrev meanings_of : MeaningParts → List Meaning
meanings_of p =
    Address p.n ∷ AddressNumber p.n ∷ Whole p.whole ∷ Bits p.n p.m ∷ SixteenBytes p.bytes ∷ IsSet p.is ∷ Data p.bytes ∷ Expression p.bytes ∷ InUnit p.n ∷ InSection p.n ∷ TypeSignature p.n ∷ InSup p.n p.m ∷ Text p.bytes ∷ StringPlace p.n ∷ LineStringPlace p.n ∷ SupStringPlace p.n ∷ StringNumber p.n ∷ SectionPlace p.n ∷ LocationList p.n ∷ RangeList p.n ∷ []

abbrev meaning_of : MeaningParts → Meaning
meaning_of p = slice_index_or (meanings_of p) p.which (Address 0)

meaning_back : (x : Meaning) → meaning_of (meaning_parts x) ≡ x
meaning_back (Address n) = refl
meaning_back (AddressNumber n) = refl
meaning_back (Whole z) = refl
meaning_back (Bits n m) = refl
meaning_back (SixteenBytes bytes) = refl
meaning_back (IsSet b) = refl
meaning_back (Data bytes) = refl
meaning_back (Expression bytes) = refl
meaning_back (InUnit n) = refl
meaning_back (InSection n) = refl
meaning_back (TypeSignature n) = refl
meaning_back (InSup n m) = refl
meaning_back (Text bytes) = refl
meaning_back (StringPlace n) = refl
meaning_back (LineStringPlace n) = refl
meaning_back (SupStringPlace n) = refl
meaning_back (StringNumber n) = refl
meaning_back (SectionPlace n) = refl
meaning_back (LocationList n) = refl
meaning_back (RangeList n) = refl

stable_meaning : IsStable Meaning
stable_meaning = told_from meaning_parts meaning_of meaning_back stable_meaning_parts

-- the same of resolved values
record ValueParts : Type 0 where
  which : ℕ
  itself : Meaning
  operations : List LinkedOperation
  n : ℕ
  target : Target
  list : ListMeaning
  kind : ListKind
  pairs : List ViewPair

abbrev no_list : ListMeaning
no_list = record { kind = Ranges; content = Items []; expressions = [] }

abbrev plain_parts : ℕ → ℕ → ValueParts
plain_parts which n = record { which = which; itself = Address 0; operations = []; n = n; target = TheEntry 0; list = no_list; kind = Ranges; pairs = [] }

stable_value_parts : IsStable ValueParts
stable_value_parts x y same =
    let which = stable_nat x.which y.which (through (λ (p : ValueParts). p.which) same) in
    let itself = stable_meaning x.itself y.itself (through (λ (p : ValueParts). p.itself) same) in
    let operations = stable_list stable_linked x.operations y.operations (through (λ (p : ValueParts). p.operations) same) in
    let n = stable_nat x.n y.n (through (λ (p : ValueParts). p.n) same) in
    let target = stable_target x.target y.target (through (λ (p : ValueParts). p.target) same) in
    let list = stable_list_meaning x.list y.list (through (λ (p : ValueParts). p.list) same) in
    let kind = stable_kind x.kind y.kind (through (λ (p : ValueParts). p.kind) same) in
    let pairs = stable_list stable_views x.pairs y.pairs (through (λ (p : ValueParts). p.pairs) same) in
    λ i. record { which = which i; itself = itself i; operations = operations i; n = n i; target = target i; list = list i; kind = kind i; pairs = pairs i }

abbrev value_parts : Resolved → ValueParts
value_parts (Itself meaning) = record { which = 0; itself = meaning; operations = []; n = 0; target = TheEntry 0; list = no_list; kind = Ranges; pairs = [] }
value_parts (Operates operations) = record { which = 1; itself = Address 0; operations = operations; n = 0; target = TheEntry 0; list = no_list; kind = Ranges; pairs = [] }
value_parts (Refers unit target) = record { which = 2; itself = Address 0; operations = []; n = unit; target = target; list = no_list; kind = Ranges; pairs = [] }
value_parts (Program p) = plain_parts 3 p
value_parts (AList list) = record { which = 4; itself = Address 0; operations = []; n = 0; target = TheEntry 0; list = list; kind = Ranges; pairs = [] }
value_parts (Indexed i list) = record { which = 5; itself = Address 0; operations = []; n = i; target = TheEntry 0; list = list; kind = Ranges; pairs = [] }
value_parts (PartOf kind p) = record { which = 6; itself = Address 0; operations = []; n = p; target = TheEntry 0; list = no_list; kind = kind; pairs = [] }
value_parts (Pairs pairs) = record { which = 7; itself = Address 0; operations = []; n = 0; target = TheEntry 0; list = no_list; kind = Ranges; pairs = pairs }
value_parts (Kept n) = plain_parts 8 n

abbrev values_of : ValueParts → List Resolved
values_of p =
    Itself p.itself ∷ Operates p.operations ∷ Refers p.n p.target ∷ Program p.n ∷ AList p.list ∷ Indexed p.n p.list ∷ PartOf p.kind p.n ∷ Pairs p.pairs ∷ Kept p.n ∷ []

abbrev value_of : ValueParts → Resolved
value_of p = slice_index_or (values_of p) p.which (Kept 0)

value_back : (x : Resolved) → value_of (value_parts x) ≡ x
value_back (Itself meaning) = refl
value_back (Operates operations) = refl
value_back (Refers unit target) = refl
value_back (Program p) = refl
value_back (AList list) = refl
value_back (Indexed i list) = refl
value_back (PartOf kind p) = refl
value_back (Pairs pairs) = refl
value_back (Kept n) = refl

stable_resolved : IsStable Resolved
stable_resolved = told_from value_parts value_of value_back stable_value_parts

-- UNITS

pub stable_entry : IsStable EntryMeaning
stable_entry x y same =
    let depth = stable_nat x.depth y.depth (through (λ (e : EntryMeaning). e.depth) same) in
    let tag = stable_nat x.tag y.tag (through (λ (e : EntryMeaning). e.tag) same) in
    let children = stable_bool x.children y.children (through (λ (e : EntryMeaning). e.children) same) in
    let attributes = stable_list (stable_pair stable_nat stable_resolved) x.attributes y.attributes (through (λ (e : EntryMeaning). e.attributes) same) in
    λ i. record { depth = depth i; tag = tag i; children = children i; attributes = attributes i }

pub stable_set : IsStable SetMeaning
stable_set x y same =
    let unit = stable_nat x.unit y.unit (through (λ (s : SetMeaning). s.unit) same) in
    λ i. record { unit = unit i }
