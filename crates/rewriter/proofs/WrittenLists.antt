-- The lists of a kind of a file can be written by their plans, with the new expressions of their items.
use Rattle.std.proofs.Common.{◌≡◌, ◌≤◌, ◌<◌, ◌+◌, ◌*◌, ◌-◌, ◌^◌, ◌∙◌, ℕ, zero, suc, List, [], ◌∷◌, ◌++◌, length, get_or, map, cond, Bool, true, false, inl, inr, sym, ap, refl, subst, arith}
use Rattle.std.specs.Prelude.{Option, Some}
use Rattle.std.specs.List.{sum_by}
use Rattle.std.proofs.lemmas.Bool.{cases_lt}
use Rattle.std.proofs.lemmas.List.{length-map, get_or_default, nil_from_length}
use Rattle.std.proofs.lemmas.List.Elements.{All-get_or}
use Rattle.std.proofs.lemmas.List.Sums.{sum_by-cons, get_or-le-sum_by}
use Rattle.std.proofs.lemmas.Slice.Zip.{AllZip-long}
use Rattle.dw_base.specs.declared.classes.Classes.{Classes}
use Rattle.dw_base.specs.declared.fault.Reach.TheVariants.{Narrow}
use Rattle.fixed_width.specs.InitialLengths.{least_reserved}
use Rattle.elf_sections.specs.Names.{is_debug_name}
use Rattle.list_model.specs.declared.contribution.Contribution.{Contribution}
use Rattle.list_model.specs.declared.entry.ListKind.{ListKind}
use Rattle.list_model.specs.declared.entry.ListKind.TheVariants.{Ranges, Locations}
use Rattle.list_model.specs.declared.entry.RawEntry.{RawEntry}
use Rattle.list_model.specs.declared.item.Meaning.{Meaning}
use Rattle.list_model.specs.declared.item.Meaning.TheVariants.{Live, Dead}
use Rattle.list_model.specs.Contributions.{lists_at, part_end, HoldsList, IsContribution, ContributionsFollow}
use Rattle.list_model.proofs.Tiling.{each_part, part_inside}
use Rattle.loc_lists.specs.Locations.{is_item, items_among, bytes_in}
use Rattle.list_write.specs.declared.image.Moved.{Moved}
use Rattle.list_write.specs.declared.named.NamedList.{NamedList}
use Rattle.list_write.specs.Written.{ToWrite, pieces, AreEnds, to_write, all_runs, run_size, own_size, full_size, front_size, behind_size, HasExpressions, IsSized, IsToWrite, CanBeWritten, AreWritten}
use Rattle.list_write.specs.Written.{part_at as old_part_at, list_at as written_at}
use Rattle.unit_write.specs.declared.places.Places.{Places}
use Rattle.list_arena.specs.Held.{HeldList}
use Rattle.value_links.specs.Sections.{lists_name, debug_lists}
use Rattle.value_links.specs.Reading.{ListRead, ListSection, Reading, of_kind, lists_of, list_at, part_at, context_at}
use Rattle.value_links.specs.Lists.{IsOwner, IsFrozen, item_count, expressions_at, owner_unit}
use Rattle.value_links.specs.ListFaults.{list_total, entry_total, expression_bytes}
use Rattle.value_links.specs.World.{World, contributions_held, lists_held, HoldsMeaning, Holds, IsWorldOf, HoldsList as IsHeld}
use Rattle.list_lookup.proofs.GrownLists.{each_more, counted_more}
use Rattle.rewriter.specs.inside.Numbers.{IsNewExpression}
use Rattle.rewriter.specs.inside.Plans.{with_plan, IsPlanOf, AreExpressionsFor, IsPlannedAs, ArePlannedTo, AreViewsUpTo}
use Rattle.rewriter.specs.inside.Runs.{views_held}
use Rattle.rewriter.specs.inside.Lists.{IsPlannedFor, AreNewExpressions, AreListsWritten}
use Rattle.rewriter.proofs.ApartLaws.{items_said}
use Rattle.rewriter.proofs.DebugSizes.{debug_short}
use Rattle.rewriter.proofs.ListPieces.{pieces_most, behind_most}
use Rattle.rewriter.proofs.ListTotals.{few_entries, few_expression_bytes}
use Rattle.rewriter.proofs.PlannedLists.{items_counted, planned_most}
use Rattle.rewriter.proofs.ViewRuns.{runs_are, runs_own, sizes_apart, runs_few}

-- ---- the lists with their plans and expressions

-- one more list has a plan and expressions
pub planned_more : {classes : Classes} → (world : World) (places : List Places) (kind : ListKind) (n : ℕ) (lists new : List NamedList) (list : HeldList) (one : NamedList) → ArePlannedTo classes world places kind n lists → n < length (lists_held world kind) → list ≡ get_or (lists_held world kind) n list → one ≡ with_plan list one.plan one → IsPlanOf classes world kind list one.plan → AreExpressionsFor world places kind list one.expressions → new ≡ lists ++ one ∷ [] → ArePlannedTo classes world places kind (n + 1) new
planned_more {classes} world places kind n lists new list one old inside is named planned made pushed = subst (λ (z : List NamedList). ArePlannedTo classes world places kind (n + 1) z) (sym pushed) (record {
  count = counted_more n lists one old.count;
  each = λ k d e less. each_more (λ (i : ℕ) (x : NamedList). (b : HeldList) → IsPlannedAs classes world places kind (get_or (lists_held world kind) i b) x) n lists one old.count (λ i x before b. old.each i b x before) last k e less d;
})
  where
    last : (b : HeldList) → IsPlannedAs classes world places kind (get_or (lists_held world kind) n b) one
    last b =
        let same : list ≡ get_or (lists_held world kind) n b = is ∙ get_or_default (lists_held world kind) n list b inside in
        subst (λ (z : HeldList). IsPlannedAs classes world places kind z one) same (record { is = named; plan = planned; expressions = made })

at_mapped : {X Y : Type 0} (f : X → Y) (xs : List X) (k : ℕ) (y : Y) → k < length xs → (x : X) × (get_or (map f xs) k y ≡ f x) × ((e : X) → get_or xs k e ≡ x)
at_mapped f [] k y less = absurd (omega arith)
at_mapped f (x ∷ xs) zero y less = (x, refl, λ e. refl)
at_mapped f (x ∷ xs) (suc k) y less = at_mapped f xs k y (omega arith)

of_list : {X : Type 0} (xs : List X) (i : ℕ) → i < length xs → X
of_list [] i less = absurd (omega arith)
of_list (x ∷ xs) i less = x

-- ---- the expressions of a list

cond_most : (b : Bool) (x : RawEntry) (xs : List RawEntry) → length (cond b (x ∷ xs) xs) ≤ suc (length xs)
cond_most true x xs = omega arith
cond_most false x xs = omega arith

items_fewer : (raws : List RawEntry) → length (items_among raws) ≤ length raws
items_fewer [] = omega arith
items_fewer (raw ∷ raws) = omega (arith, cond_most (is_item raw) raw (items_among raws), items_fewer raws)

module _ (r : Reading) (places : List Places) where
  -- there are as many new expressions as old ones
  made_count : (kind : ListKind) (old : ListRead) (made : List (List ℕ)) → AreNewExpressions r.links places kind old made → length made ≡ length (expressions_at r.links kind old)
  made_count kind old made new = AllZip-long (IsNewExpression r.links places (owner_unit r.links new.owner)) (expressions_at r.links kind old) made new.each

  made_items : (old : ListRead) (made : List (List ℕ)) → AreNewExpressions r.links places Locations old made → length made ≡ length (items_among old.raws)
  made_items old made new = made_count Locations old made new ∙ length-map (items_among old.raws) (λ (raw : RawEntry). bytes_in r.links.locations.section raw.expr)

  made_few : (kind : ListKind) (old : ListRead) (made : List (List ℕ)) → AreNewExpressions r.links places kind old made → length made ≤ length old.raws
  made_few Ranges old made new = let none : length made ≡ 0 = made_count Ranges old made new in omega (arith, none)
  made_few Locations old made new = omega (arith, made_items old made new, items_fewer old.raws)

  -- the entries of a plan have as many items as those that are read
  items_kept : {classes : Classes} → (old : ListRead) (list : HeldList) → IsHeld r.links Locations old list → (written : ToWrite) (plan : IsPlannedFor classes r Locations old written) (meaning : Meaning) → list.meaning ≡ meaning → length (items_among old.raws) ≡ item_count plan.entries
  items_kept old list held written plan (Live items) is =
      let meant : HoldsMeaning r.links Locations old list.owner (Live items) = subst (λ (z : Meaning). HoldsMeaning r.links Locations old list.owner z) is held.meaning in
      let (live, (u, owner_is, says)) = meant in
      let owned : IsOwner r.links Locations old.at (Some u) = subst (λ (z : Option ℕ). IsOwner r.links Locations old.at z) owner_is held.owner in
      let gives = (plan.same says.entries says.said).live live u says.bounds owned says.gives in
      let base : ℕ = (context_at r.links u).base in
      items_said old.raws says.entries says.said
      ∙ sym (items_counted r.links.addresses (context_at r.links u) base says.entries says.bounds says.gives)
      ∙ items_counted r.links.addresses (context_at r.links u) base plan.entries says.bounds gives
  items_kept old list held written plan Dead is =
      let frozen : IsFrozen r.links Locations old = subst (λ (z : Meaning). HoldsMeaning r.links Locations old list.owner z) is held.meaning in
      items_said old.raws frozen.0 frozen.1 ∙ ap item_count (sym ((plan.same frozen.0 frozen.1).kept (inr frozen)))

  -- each of these has an expression
  carried : {classes : Classes} → (kind : ListKind) (old : ListRead) (list : HeldList) → IsHeld r.links kind old list → (written : ToWrite) (plan : IsPlannedFor classes r kind old written) → AreNewExpressions r.links places kind old written.expressions → HasExpressions kind plan.entries written.expressions
  carried Ranges old list held written plan made = nil_from_length written.expressions (made_count Ranges old written.expressions made)
  carried Locations old list held written plan made = made_items old written.expressions made ∙ items_kept old list held written plan list.meaning refl

-- a list that is planned has its size
pub planned_sized : {classes : Classes} → (world : World) (places : List Places) (kind : ListKind) → IsWorldOf world.image Narrow world → (n : ℕ) → n < length (lists_held world kind) → (list : HeldList) → list ≡ get_or (lists_held world kind) n list → (one : NamedList) → one ≡ with_plan list one.plan one → IsPlanOf classes world kind list one.plan → AreExpressionsFor world places kind list one.expressions → IsSized kind (to_write one)
planned_sized {classes} world places kind is n inside list at one named planned made =
    let old : ListRead = list_at (lists_of is.r kind) n in
    let held : IsHeld is.r.links kind old list = subst (λ (z : HeldList). IsHeld is.r.links kind old z) (sym at) ((is.holds.lists kind).each n list (omega (arith, inside, (is.holds.lists kind).count))) in
    let plan : IsPlannedFor classes is.r kind old (to_write one) = subst (λ (z : NamedList). IsPlannedFor classes is.r kind old (to_write z)) (sym named) (planned is.r old one is.holds held) in
    record {
      entries = plan.entries;
      picked = plan.picked;
      bytes = plan.size;
      carried = carried is.r places kind old list held (to_write one) plan (made.are is.r old is.holds held);
    }

-- ---- the contributions

-- the headers and offsets of contributions that follow one another stand among them
fronts_follow : (section : List ℕ) (parts : List Contribution) (at end : ℕ) → ContributionsFollow section parts at end → at + sum_by front_size parts ≤ end
fronts_follow section [] at end follow = let same : at ≡ end = follow in omega arith
fronts_follow section (part ∷ parts) at end (begins, stands, follow) =
    let from : part.at ≡ at = begins in
    let fits : lists_at part ≤ part_end part = stands.fits in
    omega (arith, from, fits, fronts_follow section parts (part_end part) end follow, sum_by-cons front_size part parts)

-- ---- all lists

module _ {classes : Classes} (world : World) (places : List Places) (kind : ListKind) (named : List NamedList) (planned : ArePlannedTo classes world places kind (length (lists_held world kind)) named) where
  abbrev writes : List ToWrite
  writes = map to_write named

  -- a list by its number: what is held, and what is to be written
  record IsAt (k : ℕ) (list : HeldList) (one : NamedList) : Type 0 where
    planned_as : IsPlannedAs classes world places kind list one
    held : (d : HeldList) → get_or (lists_held world kind) k d ≡ list
    named_at : (d : NamedList) → get_or named k d ≡ one
    writes_at : written_at writes k ≡ to_write one

  found_at : (k : ℕ) → k < length (lists_held world kind) → (list : HeldList) × (one : NamedList) × IsAt k list one
  found_at k inside =
      let here = at_mapped to_write named k (written_at [] 0) (omega (arith, planned.count, inside)) in
      let held = at_mapped (λ (z : HeldList). z) (lists_held world kind) k (of_list (lists_held world kind) k inside) inside in
      let list : HeldList = held.0 in
      let one : NamedList = here.0 in
      let is = planned.each k list one inside in (
        list,
        one,
        record {
          planned_as = subst (λ (z : NamedList). IsPlannedAs classes world places kind list z) (here.2 one) (subst (λ (z : HeldList). IsPlannedAs classes world places kind z (get_or named k one)) (held.2 list) is);
          held = held.2;
          named_at = here.2;
          writes_at = here.1;
        },
      )

  module _ (r : Reading) (holds : Holds world.image world r) where
    abbrev olds : List ListRead
    olds = lists_of r kind

    -- a list by its number: what is read, held and to be written
    record IsFor (k : ℕ) (list : HeldList) (one : NamedList) : Type 0 where
      held : IsHeld r.links kind (list_at olds k) list
      plan : IsPlannedFor classes r kind (list_at olds k) (written_at writes k)
      made : AreNewExpressions r.links places kind (list_at olds k) (written_at writes k).expressions
      ends : AreEnds one.expressions
      pieces_are : (written_at writes k).expressions ≡ pieces 0 one.expressions.ends.items one.expressions.bytes.items
      few : length one.expressions.bytes.items ≤ 3 * expression_bytes (list_at olds k).raws

    for_list : (k : ℕ) → k < length olds → (list : HeldList) × (one : NamedList) × IsFor k list one
    for_list k inside =
        let within : k < length (lists_held world kind) = omega (arith, (holds.lists kind).count, inside) in
        let (list, one, at) = found_at k within in
        let old : ListRead = list_at olds k in
        let held : IsHeld r.links kind old list = subst (λ (z : HeldList). IsHeld r.links kind old z) (at.held list) ((holds.lists kind).each k list inside) in
        let plan = at.planned_as.plan r old one holds held in
        let same : written_at writes k ≡ to_write (with_plan list one.plan one) = at.writes_at ∙ ap to_write at.planned_as.is in
        let made = at.planned_as.expressions.are r old holds held in
        let expressions_are : (written_at writes k).expressions ≡ pieces 0 one.expressions.ends.items one.expressions.bytes.items = ap (λ (z : ToWrite). z.expressions) at.writes_at in (
          list,
          one,
          record {
            held = held;
            plan = subst (λ (z : ToWrite). IsPlannedFor classes r kind old z) (sym same) plan;
            made = subst (λ (z : List (List ℕ)). AreNewExpressions r.links places kind old z) (sym expressions_are) made;
            ends = at.planned_as.expressions.ends;
            pieces_are = expressions_are;
            few = subst (λ (z : List RawEntry). length one.expressions.bytes.items ≤ 3 * expression_bytes z) held.raws at.planned_as.expressions.few;
          },
        )

    plan_at : (k : ℕ) → k < length olds → IsPlannedFor classes r kind (list_at olds k) (written_at writes k)
    plan_at k inside = (for_list k inside).2.plan

    count_is : length writes ≡ length olds
    count_is = length-map named to_write ∙ planned.count ∙ (holds.lists kind).count

    -- what is written for the file
    pub lists_written : AreViewsUpTo (lists_held world kind) (views_held world kind) named (length (views_held world kind)) → (section : List ℕ) → section ≡ debug_lists world.image kind → (parts : List Contribution) → parts ≡ contributions_held world kind → (bytes : List ℕ) (new_parts : List Contribution) (moved views : List Moved) → AreWritten kind section parts writes bytes new_parts moved views → AreListsWritten classes r places kind bytes new_parts moved views
    lists_written viewed section section_is parts parts_are bytes new_parts moved views written = record {
      lists = writes;
      count = count_is;
      each = plan_at;
      expressions = λ k inside. (for_list k inside).2.made;
      runs = runs_are holds kind named viewed;
      own = runs_own holds kind named viewed planned.count;
      written =
          subst (λ (z : List Contribution). AreWritten kind (of_kind r.links kind).section z writes bytes new_parts moved views) (parts_are ∙ holds.contributions kind)
          (subst (λ (z : List ℕ). AreWritten kind z parts writes bytes new_parts moved views) (section_is ∙ sym (holds.sections kind)) written);
    }

  -- ---- the room that the lists need

  module _ (is : IsWorldOf world.image Narrow world) (viewed : AreViewsUpTo (lists_held world kind) (views_held world kind) named (length (views_held world kind))) where
    abbrev own_lists : List ListRead
    own_lists = lists_of is.r kind

    abbrev own_section : ListSection
    own_section = of_kind is.r.links kind

    own_count : length writes ≡ length own_lists
    own_count = count_is is.r is.holds

    place_inside : (k : ℕ) → k < length own_lists → (list_at own_lists k).at < length own_section.section
    place_inside k inside =
        let begins = ((is.read.lists kind).each k inside).begins in
        let part : Contribution = part_at own_section (list_at own_lists k).part in
        let stands : IsContribution own_section.section part = All-get_or (IsContribution own_section.section) own_section.parts (list_at own_lists k).part (part_at (record { section = []; parts = [] }) 0) begins.0 (each_part own_section.section own_section.parts 0 (length own_section.section) (is.read.links.lists kind).tiled) in
        omega (arith, begins.1.before, (part_inside own_section.section part stands).1)

    -- there are no more lists than bytes
    place_least : (k : ℕ) → k < length own_lists → k ≤ (list_at own_lists k).at
    place_least zero inside = omega arith
    place_least (suc k) inside = omega (arith, place_least k (omega arith), (is.read.lists kind).rising k (suc k) (omega arith) inside)

    few_lists : length own_lists ≤ length own_section.section
    few_lists = elim (cases_lt 0 (length own_lists)) [
      | inl some ↦
          let last : ℕ = length own_lists - 1 in
          let inside : last < length own_lists = omega arith in
          omega (arith, place_least last inside, place_inside last inside)
      | inr none ↦ omega arith
    ]

    section_short : length own_section.section ≤ 2 ^ 28
    section_short = subst (λ (z : List ℕ). length z ≤ 2 ^ 28) (sym (is.holds.sections kind)) (debug_short world.image (lists_name kind) (is_debug kind) is.valid)
      where
        is_debug : (of : ListKind) → is_debug_name (lists_name of) ≡ true
        is_debug Ranges = refl
        is_debug Locations = refl

    -- how many bytes a list takes at most
    abbrev most_of : ListRead → ℕ
    most_of list = 52 * length list.raws + 1 + 3 * expression_bytes list.raws

    total_few : (k : ℕ) → k < length own_lists → expression_bytes (list_at own_lists k).raws ≤ 2 ^ 27
    total_few k inside = omega (arith, get_or-le-sum_by (λ (list : ListRead). expression_bytes list.raws) own_lists k (list_at [] 0) inside, few_expression_bytes world is kind)

    size_most : (k : ℕ) → k < length writes → own_size (written_at writes k) ≤ most_of (list_at own_lists k)
    size_most k inside =
        let within : k < length own_lists = omega (arith, own_count, inside) in
        let (list, one, found) = for_list is.r is.holds k within in
        let expressions : List (List ℕ) = (written_at writes k).expressions in
        let bare : (written_at writes k).size ≤ 42 * length (list_at own_lists k).raws + 1 = planned_most is.r kind (list_at own_lists k) (written_at writes k) found.plan in
        let lengths : sum_by length expressions ≤ length one.expressions.bytes.items - 0 =
        subst (λ (z : List (List ℕ)). sum_by length z ≤ length one.expressions.bytes.items - 0) (sym found.pieces_are) (pieces_most 0 one.expressions.ends.items one.expressions.bytes.items (length one.expressions.bytes.items) found.ends) in
        let count : length expressions ≤ length (list_at own_lists k).raws = made_few is.r places kind (list_at own_lists k) expressions found.made in
        let total = total_few k within in
        let few = found.few in
        let behind : sum_by behind_size expressions ≤ 10 * length expressions + sum_by length expressions = behind_most expressions (omega (arith, lengths, few, total)) in
        omega (arith, bare, lengths, count, few, behind)

    sizes_fit : sum_by own_size writes ≤ 52 * entry_total own_lists + length own_lists + 3 * list_total expression_bytes own_lists
    sizes_fit = omega (arith, sum_two writes own_lists own_count size_most, sum_most own_lists)
      where
        sum_two : (xs : List ToWrite) (ys : List ListRead) → length xs ≡ length ys → ((k : ℕ) → k < length xs → own_size (written_at xs k) ≤ most_of (list_at ys k)) → sum_by own_size xs ≤ sum_by most_of ys
        sum_two [] ys count each = omega arith
        sum_two (x ∷ xs) [] count each = absurd (omega arith)
        sum_two (x ∷ xs) (y ∷ ys) count each =
            omega (arith, sum_by-cons own_size x xs, sum_by-cons most_of y ys, each 0 (omega arith), sum_two xs ys (omega arith) (λ k less. each (suc k) (omega arith)))

        sum_most : (ys : List ListRead) → sum_by most_of ys ≡ 52 * entry_total ys + length ys + 3 * list_total expression_bytes ys
        sum_most [] = refl
        sum_most (y ∷ ys) = omega (arith, sum_by-cons most_of y ys, sum_by-cons (λ (list : ListRead). length list.raws) y ys, sum_by-cons (λ (list : ListRead). expression_bytes list.raws) y ys, sum_most ys)

    room_is : sum_by front_size own_section.parts + sum_by full_size writes < least_reserved
    room_is =
        let fronts = fronts_follow own_section.section own_section.parts 0 (length own_section.section) (is.read.links.lists kind).tiled in
        let views_few : sum_by run_size (all_runs writes) ≤ 20 * 2 ^ 24 = runs_few is.read kind writes (runs_are is.holds kind named viewed) is.few_views in
        omega (arith, fronts, sizes_apart writes, views_few, sizes_fit, few_lists, section_short, few_entries world is kind, few_expression_bytes world is kind)

    to_write_at : (k : ℕ) → k < length writes → IsToWrite kind own_section.parts (written_at writes k)
    to_write_at k inside =
        let within : k < length own_lists = omega (arith, own_count, inside) in
        let (list, one, found) = for_list is.r is.holds k within in
        let plan = found.plan in
        let begins = ((is.read.lists kind).each k within).begins in
        record {
          known = omega (arith, plan.part, begins.0);
          holds =
              subst (λ (z : ℕ). HoldsList (old_part_at own_section.parts z) (written_at writes k).at) (sym plan.part)
              (subst (λ (z : ℕ). HoldsList (old_part_at own_section.parts (list_at own_lists k).part) z) (sym plan.at) begins.1);
          entries = plan.entries;
          picked = plan.picked;
          bytes = plan.size;
          carried = carried is.r places kind (list_at own_lists k) list found.held (written_at writes k) plan found.made;
        }

    own_plan : (k : ℕ) → k < length own_lists → IsPlannedFor classes is.r kind (list_at own_lists k) (written_at writes k)
    own_plan k inside = plan_at is.r is.holds k inside

    own_written : CanBeWritten kind own_section.section own_section.parts writes
    own_written = record {
      tiled = (is.read.links.lists kind).tiled;
      rising = λ j k less inside.
          let within : k < length own_lists = omega (arith, own_count, inside) in
          omega (arith, (own_plan j (omega arith)).at, (own_plan k within).at, (is.read.lists kind).rising j k less within);
      each = to_write_at;
      told = λ p i known counted.
          let slot = (is.read.lists kind).slots p i known counted in
          let list = (is.read.lists kind).all slot.0 (inr (p, i, slot.1)) in
          (list.0, omega (arith, list.1, own_count), (own_plan list.0 list.1).at ∙ list.2 ∙ slot.1.0.tells);
      room = room_is;
    }

    -- they can be written
    pub can_be_written : (section : List ℕ) → section ≡ debug_lists world.image kind → (parts : List Contribution) → parts ≡ contributions_held world kind → CanBeWritten kind section parts writes
    can_be_written section section_is parts parts_are =
        subst (λ (z : List Contribution). CanBeWritten kind section z writes) (sym (parts_are ∙ is.holds.contributions kind))
        (subst (λ (z : List ℕ). CanBeWritten kind z own_section.parts writes) (sym (section_is ∙ sym (is.holds.sections kind))) own_written)
