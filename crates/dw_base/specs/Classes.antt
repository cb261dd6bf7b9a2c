-- The two sets of members that are written for: all of them, and those that debuggers of today read and archives pack well.
use Rattle.std.specs.Prelude.{true, false}
use Rattle.dw_base.specs.declared.classes.Classes.{Classes}

abbrev pub every : Classes
every =
    record {
      indexes = true;
      signed = true;
      implicit = true;
      lines = true;
      lists = true;
    }

abbrev pub packaged : Classes
packaged =
    record {
      indexes = false;
      signed = false;
      implicit = false;
      lines = false;
      lists = false;
    }
