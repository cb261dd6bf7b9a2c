use Rattle.std.proofs.Common.{rules, ◌≡◌, ◌≤◌, ◌<◌, ◌+◌, ◌^◌, ◌∙◌, ℕ, List, All, length, sum, sym, ap, subst, arith}
use Rattle.std.proofs.lemmas.List.{length-append, length-map}
use Rattle.std.proofs.lemmas.Slice.Zip.{AllZip-long}
use Rattle.dw_base.specs.declared.fault.Reach.TheVariants.{Narrow}
use Rattle.leb_codec.specs.Layout.{SlotRow}
use Rattle.slot_layout.specs.Rows.{rows_of, row_of}
use Rattle.expr_ops.specs.Slots.{Aim}
use Rattle.entry_arena.specs.Arena.{Arena}
use Rattle.entry_read.specs.Slots.{aims_of, operations_in}
use Rattle.unit_write.specs.Slots.{IsSpotFor}
use Rattle.unit_write.specs.Most.{most_bytes}
use Rattle.unit_write.specs.inside.Marks.{AreLensWith}
use Rattle.unit_write.proofs.ListSlots.{lists_many}
use Rattle.unit_write.proofs.ShortSpans.{short_of}
use Rattle.unit_write.proofs.Lengths.{sizes_small, all_slots, lens_under, lens_laid, fixed_room}
use Rattle.unit_write.proofs.ShortSpans.{held_of}
use Rattle.unit_write.proofs.SlotPlacing.{takes_sizes, laid_places, placed_most}
use Rattle.unit_write.proofs.TakenUnits.{have_values}
use Rattle.unit_write.proofs.layout.lay_out.Goals as goal

pub measure-requires-clause-operations : goal.measure-requires-clause-operations
measure-requires-clause-operations c = (Narrow, c.requires.operations)

pub measured_slots-requires-clause-operations : goal.measured_slots-requires-clause-operations
measured_slots-requires-clause-operations c = (Narrow, c.requires.operations)

pub measure-requires-clause-short : goal.measure-requires-clause-short
measure-requires-clause-short c = short_of c.args.unit.now c.args.decls.now c.args.specs.now.items c.args.numbers.now.items c.requires.writable c.requires.room

pub solve-requires-clause-few : goal.solve-requires-clause-few
solve-requires-clause-few c =
    let f : Arena = c.args.unit.now.forest in
    let aims : List Aim = aims_of f (operations_in f c.args.operations.now) in
    let (more, listed) = c.requires.lists in
    let rows : length (rows_of c.in_ok-marks.field-0.slots.items) ≡ length aims + length more = (c.in_ok-marks.ensures.slots more listed).count ∙ length-append aims more in
    let count : length (rows_of c.in_ok-marks.field-0.slots.items) ≡ length c.in_ok-marks.field-0.slots.items = length-map c.in_ok-marks.field-0.slots.items row_of in
    let spots : length c.args.spots.now.items ≡ length aims = AllZip-long (IsSpotFor f c.args.unit.now.head.at) aims c.args.spots.now.items c.requires.spots in
    let lists = lists_many c.args.unit.now more c.args.lists.now listed in
    let few = c.requires.few in
    omega (arith, rows, count, spots, lists, few)

pub add_sizes-requires-clause-all : goal.add_sizes-requires-clause-all
add_sizes-requires-clause-all c =
    let f : Arena = c.args.unit.now.forest in
    let aims : List Aim = aims_of f (operations_in f c.args.operations.now) in
    let (more, listed) = c.requires.lists in
    let own = ap sum c.deref.ensures.value ∙ all_slots f (operations_in f c.args.operations.now) c.in_ok-measured.measured c.in_ok-measured.ensures.measured in
    let rows : length (rows_of c.in_ok-marks.field-0.slots.items) ≡ length aims + length more = (c.in_ok-marks.ensures.slots more listed).count ∙ length-append aims more in
    let long : length c.in_ok-layout.layout.sizes.items ≡ length (rows_of c.in_ok-marks.field-0.slots.items) = c.in_ok-layout.ensures.member.same_length in
    let lent : length c.deref-2.result.now ≡ length c.in_ok-layout.layout.sizes.items = ap length c.deref-2.ensures.value in
    omega (arith, own, rows, long, lent)

pub add_sizes-requires-clause-small : goal.add_sizes-requires-clause-small
add_sizes-requires-clause-small c =
    let rows : List SlotRow = rows_of c.in_ok-marks.field-0.slots.items in
    subst (λ (z : List ℕ). All (λ (size : ℕ). size ≤ 5) z) (sym c.deref-2.ensures.value) (sizes_small rows c.in_ok-layout.layout.sizes.items c.in_ok-layout.ensures.member.same_length c.in_ok-layout.ensures.tight c.in_ok-layout.ensures.narrow)

pub add_sizes-requires-clause-few : goal.add_sizes-requires-clause-few
add_sizes-requires-clause-few c =
    let f : Arena = c.args.unit.now.forest in
    let aims : List Aim = aims_of f (operations_in f c.args.operations.now) in
    let (more, listed) = c.requires.lists in
    let rows : length (rows_of c.in_ok-marks.field-0.slots.items) ≡ length aims + length more = (c.in_ok-marks.ensures.slots more listed).count ∙ length-append aims more in
    let long : length c.in_ok-layout.layout.sizes.items ≡ length (rows_of c.in_ok-marks.field-0.slots.items) = c.in_ok-layout.ensures.member.same_length in
    let lent : length c.deref-2.result.now ≡ length c.in_ok-layout.layout.sizes.items = ap length c.deref-2.ensures.value in
    let spots : length c.args.spots.now.items ≡ length aims = AllZip-long (IsSpotFor f c.args.unit.now.head.at) aims c.args.spots.now.items c.requires.spots in
    let lists = lists_many c.args.unit.now more c.args.lists.now listed in
    let few = c.requires.few in
    omega (arith, rows, long, lent, spots, lists, few)

pub add_sizes-requires-clause-room : goal.add_sizes-requires-clause-room
add_sizes-requires-clause-room c =
    let short = short_of c.args.unit.now c.args.decls.now c.args.specs.now.items c.args.numbers.now.items c.requires.writable c.requires.room in
    fixed_room c.args.unit.now.forest c.args.operations.now (Narrow, c.requires.operations) c.slots_are_few.ensures.opcodes short c.in_ok-measured.measured c.in_ok-measured.ensures.measured

pub returns-clause-laid_out : goal.returns-clause-laid_out
returns-clause-laid_out c = λ more listed.
    let f : Arena = c.args.unit.now.forest in
    let counts = subst (λ (z : List ℕ). AreLensWith c.in_ok-measured.measured.fixed.items z c.deref-2.result.now c.add_sizes.new.lens.items) c.deref.ensures.value c.add_sizes.ensures in
    let added = subst (λ (z : List ℕ). AreLensWith c.in_ok-measured.measured.fixed.items c.in_ok-measured.measured.slots.items z c.add_sizes.new.lens.items) c.deref-2.ensures.value counts in
    record {
      rows = rows_of c.in_ok-marks.field-0.slots.items;
      slots = c.in_ok-marks.ensures.slots more listed;
      sizes = c.in_ok-layout.layout.sizes.items;
      layout = c.in_ok-layout.ensures.member;
      least = c.in_ok-layout.ensures.least;
      tight = c.in_ok-layout.ensures.tight;
      accepted = c.in_ok-layout.ensures.accepted;
      first = c.in_ok-layout.ensures.first_ranks;
      lens_are = lens_under f (operations_in f c.args.operations.now) c.in_ok-measured.measured c.in_ok-measured.ensures.measured c.in_ok-layout.layout.sizes.items c.add_sizes.new.lens.items added;
    }

pub returns-clause-lens : goal.returns-clause-lens
returns-clause-lens c =
    let f : Arena = c.args.unit.now.forest in
    let rows : List SlotRow = rows_of c.in_ok-marks.field-0.slots.items in
    let sizes : List ℕ = c.in_ok-layout.layout.sizes.items in
    let counts = subst (λ (z : List ℕ). AreLensWith c.in_ok-measured.measured.fixed.items z c.deref-2.result.now c.add_sizes.new.lens.items) c.deref.ensures.value c.add_sizes.ensures in
    let added = subst (λ (z : List ℕ). AreLensWith c.in_ok-measured.measured.fixed.items c.in_ok-measured.measured.slots.items z c.add_sizes.new.lens.items) c.deref-2.ensures.value counts in
    let under = lens_under f (operations_in f c.args.operations.now) c.in_ok-measured.measured c.in_ok-measured.ensures.measured sizes c.add_sizes.new.lens.items added in
    let small = sizes_small rows sizes c.in_ok-layout.ensures.member.same_length c.in_ok-layout.ensures.tight c.in_ok-layout.ensures.narrow in
    lens_laid f c.args.operations.now (Narrow, c.requires.operations) c.in_ok-measured.measured c.in_ok-measured.ensures.measured sizes c.add_sizes.new.lens.items under small

pub with_sizes-requires-clause-sizes : goal.with_sizes-requires-clause-sizes
with_sizes-requires-clause-sizes c =
    let unit = c.args.unit.now in
    let table = c.args.decls.now in
    let columns = c.args.specs.now.items in
    let numbers = c.args.numbers.now.items in
    let ops = operations_in unit.forest c.args.operations.now in
    let aims : List Aim = aims_of unit.forest ops in
    let (more, listed) = c.requires.lists in
    let rows : length (rows_of c.in_ok-marks.field-0.slots.items) ≡ length aims + length more = (c.in_ok-marks.ensures.slots more listed).count ∙ length-append aims more in
    let long : length c.in_ok-layout.layout.sizes.items ≡ length (rows_of c.in_ok-marks.field-0.slots.items) = c.in_ok-layout.ensures.member.same_length in
    let lent : length c.deref-3.result.now ≡ length c.in_ok-layout.layout.sizes.items = ap length c.deref-3.ensures.value in
    let valued = have_values unit table (held_of unit table columns numbers c.requires.writable) in
    takes_sizes unit table columns numbers ops c.in_ok-marks.field-0.marks c.in_ok-marks.ensures.marks valued c.deref-3.result.now (omega (arith, rows, long, lent))

pub with_sizes-requires-clause-small : goal.with_sizes-requires-clause-small
with_sizes-requires-clause-small c =
    let rows : List SlotRow = rows_of c.in_ok-marks.field-0.slots.items in
    subst (λ (z : List ℕ). All (λ (size : ℕ). size ≤ 5) z) (sym c.deref-3.ensures.value) (sizes_small rows c.in_ok-layout.layout.sizes.items c.in_ok-layout.ensures.member.same_length c.in_ok-layout.ensures.tight c.in_ok-layout.ensures.narrow)

pub with_sizes-requires-clause-few : goal.with_sizes-requires-clause-few
with_sizes-requires-clause-few c =
    let f : Arena = c.args.unit.now.forest in
    let aims : List Aim = aims_of f (operations_in f c.args.operations.now) in
    let (more, listed) = c.requires.lists in
    let rows : length (rows_of c.in_ok-marks.field-0.slots.items) ≡ length aims + length more = (c.in_ok-marks.ensures.slots more listed).count ∙ length-append aims more in
    let long : length c.in_ok-layout.layout.sizes.items ≡ length (rows_of c.in_ok-marks.field-0.slots.items) = c.in_ok-layout.ensures.member.same_length in
    let lent : length c.deref-3.result.now ≡ length c.in_ok-layout.layout.sizes.items = ap length c.deref-3.ensures.value in
    let spots : length c.args.spots.now.items ≡ length aims = AllZip-long (IsSpotFor f c.args.unit.now.head.at) aims c.args.spots.now.items c.requires.spots in
    let lists = lists_many c.args.unit.now more c.args.lists.now listed in
    let few = c.requires.few in
    omega (arith, rows, long, lent, spots, lists, few)

pub returns-clause-start : goal.returns-clause-start
returns-clause-start c = c.with_sizes.ensures.start ∙ c.in_ok-marks.ensures.marks.start

pub returns-clause-placed : goal.returns-clause-placed
returns-clause-placed c =
    let unit = c.args.unit.now in
    let f : Arena = unit.forest in
    let table = c.args.decls.now in
    let columns = c.args.specs.now.items in
    let numbers : List ℕ = c.args.numbers.now.items in
    let ops = operations_in f c.args.operations.now in
    let sizes : List ℕ = c.in_ok-layout.layout.sizes.items in
    let lens : List ℕ = c.add_sizes.new.lens.items in
    let counts = subst (λ (z : List ℕ). AreLensWith c.in_ok-measured.measured.fixed.items z c.deref-2.result.now lens) c.deref.ensures.value c.add_sizes.ensures in
    let added = subst (λ (z : List ℕ). AreLensWith c.in_ok-measured.measured.fixed.items c.in_ok-measured.measured.slots.items z lens) c.deref-2.ensures.value counts in
    let under = lens_under f ops c.in_ok-measured.measured c.in_ok-measured.ensures.measured sizes lens added in
    let small = sizes_small (rows_of c.in_ok-marks.field-0.slots.items) sizes c.in_ok-layout.ensures.member.same_length c.in_ok-layout.ensures.tight c.in_ok-layout.ensures.narrow in
    let laid = lens_laid f c.args.operations.now (Narrow, c.requires.operations) c.in_ok-measured.measured c.in_ok-measured.ensures.measured sizes lens under small in
    laid_places unit table columns numbers ops c.in_ok-marks.field-0.marks c.in_ok-marks.ensures.marks sizes c.deref-3.result.now lens under (c.requires.writable lens laid) c.with_sizes.result c.deref-3.ensures.value c.with_sizes.ensures

pub returns-clause-most : goal.returns-clause-most
returns-clause-most c =
    let unit = c.args.unit.now in
    let f : Arena = unit.forest in
    let table = c.args.decls.now in
    let columns = c.args.specs.now.items in
    let numbers : List ℕ = c.args.numbers.now.items in
    let ops = operations_in f c.args.operations.now in
    let sizes : List ℕ = c.in_ok-layout.layout.sizes.items in
    let lens : List ℕ = c.add_sizes.new.lens.items in
    let counts = subst (λ (z : List ℕ). AreLensWith c.in_ok-measured.measured.fixed.items z c.deref-2.result.now lens) c.deref.ensures.value c.add_sizes.ensures in
    let added = subst (λ (z : List ℕ). AreLensWith c.in_ok-measured.measured.fixed.items c.in_ok-measured.measured.slots.items z lens) c.deref-2.ensures.value counts in
    let under = lens_under f ops c.in_ok-measured.measured c.in_ok-measured.ensures.measured sizes lens added in
    let small = sizes_small (rows_of c.in_ok-marks.field-0.slots.items) sizes c.in_ok-layout.ensures.member.same_length c.in_ok-layout.ensures.tight c.in_ok-layout.ensures.narrow in
    let laid = lens_laid f c.args.operations.now (Narrow, c.requires.operations) c.in_ok-measured.measured c.in_ok-measured.ensures.measured sizes lens under small in
    let writable = c.requires.writable lens laid in
    let placed = laid_places unit table columns numbers ops c.in_ok-marks.field-0.marks c.in_ok-marks.ensures.marks sizes c.deref-3.result.now lens under writable c.with_sizes.result c.deref-3.ensures.value c.with_sizes.ensures in
    let narrow : All (λ (number : ℕ). number < 2 ^ 32) numbers = search rules in
    let most : c.with_sizes.result.end ≤ 0 + most_bytes unit = placed_most unit table columns numbers lens 0 writable laid narrow c.with_sizes.result.entries.items c.with_sizes.result.ends.items c.with_sizes.result.end placed in
    omega arith
