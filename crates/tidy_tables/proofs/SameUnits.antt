-- Files that mean the same have as many units, and as many entries of each.
use Rattle.std.proofs.Common.{◌≡◌, ◌<◌, ◌∙◌, ℕ, List, [], length, get_or, sym, subst, arith}
use Rattle.std.proofs.lemmas.List.{length-map}
use Rattle.entry_arena.specs.Forests.{described_by}
use Rattle.value_links.specs.Reading.{Reading, unit_at, declarations}
use Rattle.value_links.specs.Whole.{IsReading}
use Rattle.value_links.specs.Debug.{Debug, UnitMeaning, MeansDebug, MeansUnit}
use Rattle.value_links.specs.Same.{SameDebug}
use Rattle.value_links.proofs.ReadingOnce.{reading_once}
use Rattle.std.specs.Prelude.{None}

module _ (file written : List ℕ) (same : SameDebug file written) (r s : Reading) (read : IsReading file r) (again : IsReading written s) where
  abbrev debug : Debug
  debug = same.0

  means_old : MeansDebug file r debug
  means_old = subst (λ (z : Reading). MeansDebug file z debug) (reading_once file same.1.0 r same.1.1 read) same.1.2

  means_new : MeansDebug written s debug
  means_new = subst (λ (z : Reading). MeansDebug written z debug) (reading_once written same.2.0 s same.2.1 again) same.2.2

  pub same_units : length r.links.units ≡ length s.links.units
  same_units = sym means_old.units.count ∙ means_new.units.count

  no_meaning : UnitMeaning
  no_meaning = record { unit_type = 0; signature = 0; type_entry = None; forest = [] }

  module _ (u : ℕ) (inside : u < length s.links.units) where
    counted : (file : List ℕ) (r : Reading) → MeansDebug file r debug → u < length r.links.units → length (get_or debug.units u no_meaning).forest ≡ length (unit_at r.links u).forest.entries
    counted file r means known =
        let unit : MeansUnit r u (get_or debug.units u no_meaning) = means.units.each u no_meaning (let count = means.units.count in omega arith) in
        unit.forest.count ∙ length-map (unit_at r.links u).forest.entries (described_by (unit_at r.links u).forest.section (declarations (unit_at r.links u)) (unit_at r.links u).forest.values)

    pub same_entries : length (unit_at r.links u).forest.entries ≡ length (unit_at s.links u).forest.entries
    same_entries = sym (counted file r means_old (let count = same_units in omega arith)) ∙ counted written s means_new inside
