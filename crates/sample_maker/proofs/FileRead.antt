-- All of a generated file is read.
use Rattle.std.proofs.Common.{◌≤◌, ℕ, List, length, sym, subst}
use Rattle.std.specs.List.{All}
use Rattle.companions.specs.Aranges.{SetsTile}
use Rattle.value_links.specs.Sections.{debug_aranges}
use Rattle.value_links.specs.Reading.{Reading}
use Rattle.value_links.specs.Whole.{IsReading}
use Rattle.sample_maker.specs.Drawn.{UnitDrawn}
use Rattle.sample_maker.specs.inside.Small.{IsUnitSmall}
use Rattle.sample_maker.specs.inside.ReadImage.{file_of}
use Rattle.sample_maker.specs.inside.ReadFile.{reading_of}
use Rattle.sample_maker.proofs.GeneratedImage.{sets_there}
use Rattle.sample_maker.proofs.UnitsPlaced.{starts_are, context_is}
use Rattle.sample_maker.proofs.LinksRead.{links_read, roots_read}
use Rattle.sample_maker.proofs.EntriesName.{lists_named}
use Rattle.sample_maker.proofs.NamedLists.{lists_are, views_are}

module _ (units : List UnitDrawn) (small : All IsUnitSmall units) (few : length units ≤ 4096) where
  abbrev s : Reading
  s = reading_of units

  pub file_read : IsReading (file_of units) s
  file_read = record {
    links = links_read units small few;
    roots = roots_read units small few;
    lists = lists_are s.links.programs s.links.units s.links.addresses s.links.contexts units s.sets small few (context_is units) (lists_named units small few);
    views = views_are s.links.programs s.links.units s.links.addresses s.links.contexts units s.sets small few (context_is units) (lists_named units small few);
    sets = subst (λ (z : List ℕ). SetsTile (debug_aranges (file_of units)) z s.sets) (sym (starts_are units)) (sets_there units small few);
  }
