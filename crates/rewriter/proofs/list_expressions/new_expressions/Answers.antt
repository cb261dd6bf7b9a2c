use denote.Enum.Bare.{same_true, sameb}
use Rattle.std.proofs.Common.{◌≡◌, ◌≤◌, ◌<◌, ◌+◌, ◌^◌, ◌++◌, ◌∙◌, ℕ, List, [], ◌∷◌, length, get_or, true, false, sym, ap, refl, subst, rules, arith}
use Rattle.std.specs.List.{Contains}
use Rattle.std.specs.Prelude.{Option}
use Rattle.std.proofs.lemmas.Bool.{true≢false}
use Rattle.std.proofs.lemmas.Grind.{common_steps}
use Rattle.dw_base.specs.declared.fault.Reach.TheVariants.{Narrow}
use Rattle.list_model.specs.contracts.entry.ListKind.{the_type}
use Rattle.list_model.specs.declared.entry.ListKind.{ListKind}
use Rattle.list_model.specs.declared.entry.ListKind.TheVariants.{Ranges, Locations}
use Rattle.list_model.specs.declared.entry.RawEntry.{RawEntry}
use Rattle.loc_lists.specs.Locations.{is_item, bytes_in}
use Rattle.value_links.specs.Sections.{debug_lists}
use Rattle.value_links.specs.Operations.{IsSomeExpression}
use Rattle.value_links.specs.World.{lists_held}
use Rattle.rewriter.specs.inside.Plans.{AreExpressionsFor}
use Rattle.rewriter.specs.inside.ListNumbers.{owner_in, IsExpressionPut}
use Rattle.rewriter.proofs.ListExpressions.{put_none, put_more, put_short, expression_among}
use Rattle.rewriter.proofs.HeldExpressions.{no_expressions, lie_inside, are_expressions, expressions_short, expressions_put}
use Rattle.rewriter.proofs.list_expressions.new_expressions.Goals as goal

-- what a test of a kind tells
is_ranges : (kind : ListKind) → true ≡ sameb the_type kind Ranges → kind ≡ Ranges
is_ranges kind same = same_true the_type (search rules) kind Ranges (sym same)

is_locations : (kind : ListKind) → false ≡ sameb the_type kind Ranges → kind ≡ Locations
is_locations Ranges other = absurd (true≢false (sym other))
is_locations Locations other = refl

abbrev no_raw : RawEntry
no_raw = record { at = 0; code = 0; a = 0; b = 0; expr = record { at = 0; len = 0 } }

pub returns-then-eq : goal.returns-then-eq
returns-then-eq c = no_expressions c.args.world.now c.args.places.now.items c.args.kind c.args.list.now (record { bytes = c.new.result; ends = c.new-2.result }) (is_ranges c.args.kind (sym c.if-eq.true ∙ c.eq.ensures)) c.new.ensures.items c.new-2.ensures.items

pub loop-entry-preserved-then-not-is_item : goal.loop-entry-preserved-then-not-is_item
loop-entry-preserved-then-not-is_item c =
    let world = c.args.world.now in
    let list = c.args.list.now in
    let n : ℕ = c.loop-entry.entry-index in
    let same = c.deref-entry-items.ensures.value ∙ c.entries.ensures in
    let inside : n < length list.raw = subst (λ (z : List RawEntry). n < length z) same c.loop-entry-test.true in
    let item : is_item (get_or list.raw n no_raw) ≡ false = ap (λ (z : List RawEntry). is_item (get_or z n no_raw)) (sym same) ∙ sym c.is_item.ensures ∙ c.if-not-is_item.true in
    put_none world c.args.places.now.items (owner_in world list.owner) c.args.section.now list.raw n no_raw inside c.loop-entry.new c.loop-entry.new c.loop-entry.invariant item

pub bytes_of-bytes-requires : goal.bytes_of-bytes-requires
bytes_of-bytes-requires c =
    let world = c.args.world.now in
    let list = c.args.list.now in
    let n : ℕ = c.loop-entry.entry-index in
    let same = c.deref-entry-items.ensures.value ∙ c.entries.ensures in
    let kind : c.args.kind ≡ Locations = is_locations c.args.kind (sym c.if-eq.false ∙ c.eq.ensures) in
    let one : Contains (lists_held world Locations) list = subst (λ (z : ListKind). Contains (lists_held world z) list) kind c.requires.list in
    let section : c.args.section.now ≡ debug_lists world.image Locations = c.requires.section ∙ ap (debug_lists world.image) kind in
    let inside : n < length list.raw = subst (λ (z : List RawEntry). n < length z) same c.loop-entry-test.true in
    subst (λ (z : List RawEntry). (get_or z n no_raw).expr.at + (get_or z n no_raw).expr.len ≤ length c.args.section.now) (sym same) (lie_inside world c.requires.world list one c.args.section.now section n no_raw inside)

pub put_expression-requires-clause-valid : goal.put_expression-requires-clause-valid
put_expression-requires-clause-valid c =
    let world = c.args.world.now in
    let list = c.args.list.now in
    let n : ℕ = c.loop-entry.entry-index in
    let same = c.deref-entry-items.ensures.value ∙ c.entries.ensures in
    let kind : c.args.kind ≡ Locations = is_locations c.args.kind (sym c.if-eq.false ∙ c.eq.ensures) in
    let one : Contains (lists_held world Locations) list = subst (λ (z : ListKind). Contains (lists_held world z) list) kind c.requires.list in
    let section : c.args.section.now ≡ debug_lists world.image Locations = c.requires.section ∙ ap (debug_lists world.image) kind in
    let inside : n < length list.raw = subst (λ (z : List RawEntry). n < length z) same c.loop-entry-test.true in
    let item : is_item (get_or list.raw n no_raw) ≡ true = ap (λ (z : List RawEntry). is_item (get_or z n no_raw)) (sym same) ∙ sym c.is_item.ensures ∙ c.if-not-is_item.false in
    let bytes : c.bytes_of-bytes.result.now ≡ bytes_in c.args.section.now (get_or list.raw n no_raw).expr = c.bytes_of-bytes.ensures ∙ ap (λ (z : List RawEntry). bytes_in c.args.section.now (get_or z n no_raw).expr) same in
    subst (λ (z : List ℕ). IsSomeExpression Narrow z) (sym bytes) (expression_among (IsSomeExpression Narrow) c.args.section.now list.raw n no_raw (are_expressions world c.requires.world list one c.args.section.now section) inside item)

pub overflow_cast-len : goal.overflow_cast-len
overflow_cast-len c =
    let world = c.args.world.now in
    let list = c.args.list.now in
    let n : ℕ = c.loop-entry.entry-index in
    let same = c.deref-entry-items.ensures.value ∙ c.entries.ensures in
    let kind : c.args.kind ≡ Locations = is_locations c.args.kind (sym c.if-eq.false ∙ c.eq.ensures) in
    let one : Contains (lists_held world Locations) list = subst (λ (z : ListKind). Contains (lists_held world z) list) kind c.requires.list in
    let section : c.args.section.now ≡ debug_lists world.image Locations = c.requires.section ∙ ap (debug_lists world.image) kind in
    let inside : n < length list.raw = subst (λ (z : List RawEntry). n < length z) same c.loop-entry-test.true in
    let bytes : c.bytes_of-bytes.result.now ≡ bytes_in c.args.section.now (get_or list.raw n no_raw).expr = c.bytes_of-bytes.ensures ∙ ap (λ (z : List RawEntry). bytes_in c.args.section.now (get_or z n no_raw).expr) same in
    let own : IsExpressionPut world c.args.places.now.items (owner_in world list.owner) c.bytes_of-bytes.result.now c.loop-entry.new.bytes.items c.put_expression.new.out.items = subst (λ (z : Option ℕ). IsExpressionPut world c.args.places.now.items (owner_in world z) c.bytes_of-bytes.result.now c.loop-entry.new.bytes.items c.put_expression.new.out.items) c.owner.ensures c.in_ok-put_expression.ensures in
    let put : IsExpressionPut world c.args.places.now.items (owner_in world list.owner) (bytes_in c.args.section.now (get_or list.raw n no_raw).expr) c.loop-entry.new.bytes.items c.put_expression.new.out.items = subst (λ (z : List ℕ). IsExpressionPut world c.args.places.now.items (owner_in world list.owner) z c.loop-entry.new.bytes.items c.put_expression.new.out.items) bytes own in
    let short : length c.put_expression.new.out.items < 2 ^ 32 = put_short world c.args.places.now.items (owner_in world list.owner) c.args.section.now list.raw n no_raw inside c.loop-entry.new c.loop-entry.new c.loop-entry.invariant c.put_expression.new.out.items put (expressions_short world c.requires.world list one c.args.section.now section) in
    grind (arith, common_steps, short)

pub loop-entry-preserved : goal.loop-entry-preserved
loop-entry-preserved c =
    let world = c.args.world.now in
    let list = c.args.list.now in
    let n : ℕ = c.loop-entry.entry-index in
    let same = c.deref-entry-items.ensures.value ∙ c.entries.ensures in
    let inside : n < length list.raw = subst (λ (z : List RawEntry). n < length z) same c.loop-entry-test.true in
    let item : is_item (get_or list.raw n no_raw) ≡ true = ap (λ (z : List RawEntry). is_item (get_or z n no_raw)) (sym same) ∙ sym c.is_item.ensures ∙ c.if-not-is_item.false in
    let bytes : c.bytes_of-bytes.result.now ≡ bytes_in c.args.section.now (get_or list.raw n no_raw).expr = c.bytes_of-bytes.ensures ∙ ap (λ (z : List RawEntry). bytes_in c.args.section.now (get_or z n no_raw).expr) same in
    let own : IsExpressionPut world c.args.places.now.items (owner_in world list.owner) c.bytes_of-bytes.result.now c.loop-entry.new.bytes.items c.put_expression.new.out.items = subst (λ (z : Option ℕ). IsExpressionPut world c.args.places.now.items (owner_in world z) c.bytes_of-bytes.result.now c.loop-entry.new.bytes.items c.put_expression.new.out.items) c.owner.ensures c.in_ok-put_expression.ensures in
    let put : IsExpressionPut world c.args.places.now.items (owner_in world list.owner) (bytes_in c.args.section.now (get_or list.raw n no_raw).expr) c.loop-entry.new.bytes.items c.put_expression.new.out.items = subst (λ (z : List ℕ). IsExpressionPut world c.args.places.now.items (owner_in world list.owner) z c.loop-entry.new.bytes.items c.put_expression.new.out.items) bytes own in
    let size : c.len.result ≡ length c.put_expression.new.out.items = grind (arith, common_steps) in
    put_more world c.args.places.now.items (owner_in world list.owner) c.args.section.now list.raw n no_raw inside c.loop-entry.new (record { bytes = c.put_expression.new.out; ends = c.push.new.self }) c.loop-entry.invariant item put (c.in_ok-push.ensures.items ∙ ap (λ (z : ℕ). c.loop-entry.new.ends.items ++ z ∷ []) size)

pub returns : goal.returns
returns c =
    let world = c.args.world.now in
    let list = c.args.list.now in
    let kind : c.args.kind ≡ Locations = is_locations c.args.kind (sym c.if-eq.false ∙ c.eq.ensures) in
    let one : Contains (lists_held world Locations) list = subst (λ (z : ListKind). Contains (lists_held world z) list) kind c.requires.list in
    let section : c.args.section.now ≡ debug_lists world.image Locations = c.requires.section ∙ ap (debug_lists world.image) kind in
    let past : length list.raw ≤ c.loop-entry.entry-index = subst (λ (z : List RawEntry). length z ≤ c.loop-entry.entry-index) (c.deref-entry-items.ensures.value ∙ c.entries.ensures) c.loop-entry-test.false in
    subst (λ (z : ListKind). AreExpressionsFor world c.args.places.now.items z list c.loop-entry.new) (sym kind) (expressions_put world c.requires.world list one c.args.section.now section c.args.places.now.items c.loop-entry.new c.loop-entry.entry-index c.loop-entry.invariant past)
