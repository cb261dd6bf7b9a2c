use Rattle.std.proofs.Common.{refl}
use Rattle.dw_base.proofs.FilesLemmas.{content-written_same, content-written_other, content-made_same, content-made_other, is_there-written, is_there-written_same, is_there-made_same, is_there-made_other}
use Rattle.dw_base.proofs.files.replace.Goals as goal

pub returns-in-Some-clause-ok : goal.returns-in-Some-clause-ok
returns-in-Some-clause-ok c =
    let first = rw c.deref.ensures.value at c.in-Some.ensures.place in
    content-written_same _ _ _ _ _ first c.index_mut-file.ensures.value refl

pub returns-in-Some-clause-others : goal.returns-in-Some-clause-others
returns-in-Some-clause-others c =
    let first = rw c.deref.ensures.value at c.in-Some.ensures.place in
    content-written_other _ _ _ _ _ first c.index_mut-file.ensures.value refl

pub returns-in_ok-push-in-None-clause-ok : goal.returns-in_ok-push-in-None-clause-ok
returns-in_ok-push-in-None-clause-ok c =
    let none = rw c.deref.ensures.value at c.in-None.ensures.place in
    rw c.in_ok-push-in-None.ensures.items (content-made_same _ _ _ none c.in_ok-from_str-in-None.ensures.ok)

pub returns-in_ok-push-in-None-clause-others : goal.returns-in_ok-push-in-None-clause-others
returns-in_ok-push-in-None-clause-others c =
    rw c.in_ok-push-in-None.ensures.items (content-made_other _ _ _ c.in_ok-from_str-in-None.ensures.ok)

pub returns-in-Some-clause-made : goal.returns-in-Some-clause-made
returns-in-Some-clause-made c =
    let first = rw c.deref.ensures.value at c.in-Some.ensures.place in
    is_there-written_same _ _ _ _ _ first c.index_mut-file.ensures.value refl

pub returns-in-Some-clause-names : goal.returns-in-Some-clause-names
returns-in-Some-clause-names c =
    let first = rw c.deref.ensures.value at c.in-Some.ensures.place in
    λ f _. is_there-written _ f _ _ _ first.inside c.index_mut-file.ensures.value refl

pub returns-in_ok-push-in-None-clause-made : goal.returns-in_ok-push-in-None-clause-made
returns-in_ok-push-in-None-clause-made c =
    rw c.in_ok-push-in-None.ensures.items (is_there-made_same _ _ _ c.in_ok-from_str-in-None.ensures.ok)

pub returns-in_ok-push-in-None-clause-names : goal.returns-in_ok-push-in-None-clause-names
returns-in_ok-push-in-None-clause-names c =
    rw c.in_ok-push-in-None.ensures.items (is_there-made_other _ _ _ c.in_ok-from_str-in-None.ensures.ok)
