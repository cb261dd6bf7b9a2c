-- Sets of address ranges of the same units.
use Rattle.std.proofs.Common.{◌≡◌, ◌<◌, ◌∙◌, ℕ, List, length, map, get_or, sym, ap, arith}
use Rattle.std.specs.Prelude.{slice_index_or}
use Rattle.std.proofs.lemmas.List.{get_or-map, length-map, same_lists}
use Rattle.companions.specs.declared.set.ArangeSet.{ArangeSet}
use Rattle.value_links.specs.Debug.{SetMeaning, set_meaning}

pub same_unit : (xs ys : List ArangeSet) (k : ℕ) (d : ArangeSet) → map set_meaning ys ≡ map set_meaning xs → k < length xs → k < length ys → (slice_index_or ys k d).unit ≡ (slice_index_or xs k d).unit
same_unit xs ys k d same first second =
    ap (λ (m : SetMeaning). m.unit) (sym (get_or-map set_meaning ys k d (set_meaning d) second) ∙ ap (λ (z : List SetMeaning). get_or z k (set_meaning d)) same ∙ get_or-map set_meaning xs k d (set_meaning d) first)

pub same_units : (xs ys : List ArangeSet) → length ys ≡ length xs → ((k : ℕ) (d : ArangeSet) → k < length xs → (slice_index_or ys k d).unit ≡ (slice_index_or xs k d).unit) → map set_meaning ys ≡ map set_meaning xs
same_units xs ys size each = same_lists (map set_meaning ys) (map set_meaning xs) (length-map ys set_meaning ∙ size ∙ sym (length-map xs set_meaning)) (λ k d inside. at k d inside)
  where
    at : (k : ℕ) (d : SetMeaning) → k < length (map set_meaning ys) → get_or (map set_meaning ys) k d ≡ get_or (map set_meaning xs) k d
    at k d inside =
        let e : ArangeSet = record { at = 0; unit = 0 } in
        let counted = length-map ys set_meaning in
        let unit = each k e (omega arith) in
        get_or-map set_meaning ys k e d (omega arith) ∙ ap (λ (u : ℕ). record { unit = u }) unit ∙ sym (get_or-map set_meaning xs k e d (omega arith))
