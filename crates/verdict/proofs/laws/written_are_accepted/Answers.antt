use Rattle.verdict.proofs.laws.written_are_accepted.Goals as goal

pub returns : goal.returns
returns c = λ classes file written certificate anew certified. record {
  valid = anew.valid;
  still_valid = anew.still_valid;
  same = anew.same;
  tidy = c.written_classes.ensures classes file written anew;
  accepted = c.written_records.ensures classes written certificate (c.written_slots.ensures.stand classes file written anew) certified;
}
