use Rattle.std.proofs.Common.{List, ℕ}
use Rattle.form_codec.specs.Forms.{Meaning}
use Rattle.entry_read.specs.Units.{declarations_of}
use Rattle.list_model.specs.Addresses.{AreAllTables}
use Rattle.value_links.specs.inside.Checks.{root_attributes}
use Rattle.value_links.proofs.ContextLaws.{table_found}
use Rattle.value_links.proofs.contexts.addresses_of.Goals as goal

pub returns : goal.returns
returns c = λ (addr : List ℕ) (all : AreAllTables addr c.args.tables.now).
    let attributes : List (ℕ × Meaning) = root_attributes c.args.unit.now.forest (declarations_of c.args.table.now) in
    table_found addr attributes c.in_ok-base.base c.in_ok-base.ensures c.table_with_base.result (c.table_with_base.ensures addr all)
