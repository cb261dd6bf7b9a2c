use Rattle.std.proofs.Common.{◌≡◌, ◌++◌, [], rules, refl, sym, ◌∙◌, ap}
use Rattle.std.proofs.lemmas.Result.{err_from_is_err_and}
use Rattle.dw_base.specs.Files.{content}
use Rattle.dw_base.proofs.FilesLemmas.{content-written_same, content-written_other, content-kept, content-read, content-none, content-made_same, content-made_other, is_there-written, is_there-written_same, is_there-made_same, is_there-made_other}
use Rattle.dw_base.proofs.files.extend.Goals as goal

pub returns-in_err-extend_from_slice-in-Some-clause-others :
    goal.returns-in_err-extend_from_slice-in-Some-clause-others
returns-in_err-extend_from_slice-in-Some-clause-others c =
    let first = rw c.deref.ensures.value at c.in-Some.ensures.place in
    content-written_other _ _ _ _ _ first c.index_mut-file.ensures.value refl

pub returns-in_err-extend_from_slice-in-Some-clause-err :
    goal.returns-in_err-extend_from_slice-in-Some-clause-err
returns-in_err-extend_from_slice-in-Some-clause-err c =
    let first = rw c.deref.ensures.value at c.in-Some.ensures.place in
    let p = err_from_is_err_and c.from_residual.result c.from_residual.ensures.1 in
    rw p.1 (content-kept _ _ _ _ _ first c.index_mut-file.ensures.value refl c.in_err-extend_from_slice-in-Some.ensures.items)

pub returns-in_ok-extend_from_slice-in-Some-clause-ok :
    goal.returns-in_ok-extend_from_slice-in-Some-clause-ok
returns-in_ok-extend_from_slice-in-Some-clause-ok c =
    let first = rw c.deref.ensures.value at c.in-Some.ensures.place in
    let before = content-read _ _ _ _ first c.index_mut-file.ensures.value in
    content-written_same _ _ _ _ _ first c.index_mut-file.ensures.value refl ∙ (rw before c.in_ok-extend_from_slice-in-Some.ensures.items)

pub returns-in_ok-extend_from_slice-in-Some-clause-others :
    goal.returns-in_ok-extend_from_slice-in-Some-clause-others
returns-in_ok-extend_from_slice-in-Some-clause-others c =
    let first = rw c.deref.ensures.value at c.in-Some.ensures.place in
    content-written_other _ _ _ _ _ first c.index_mut-file.ensures.value refl

pub returns-in_ok-push-in-None-clause-ok : goal.returns-in_ok-push-in-None-clause-ok
returns-in_ok-push-in-None-clause-ok c =
    let none = rw c.deref.ensures.value at c.in-None.ensures.place in
    let gone : content c.args.files.now.items c.args.name.now ≡ [] = content-none c.args.files.now.items c.args.name.now none in
    let same : c.in_ok-to_vec-in-None.field-0.items ≡ c.args.piece.now = search rules in
    rw c.in_ok-push-in-None.ensures.items (content-made_same _ _ _ none c.in_ok-from_str-in-None.ensures.ok ∙ same ∙ ap (λ x. x ++ c.args.piece.now) (sym gone))

pub returns-in_ok-push-in-None-clause-others : goal.returns-in_ok-push-in-None-clause-others
returns-in_ok-push-in-None-clause-others c =
    rw c.in_ok-push-in-None.ensures.items (content-made_other _ _ _ c.in_ok-from_str-in-None.ensures.ok)

pub returns-in_ok-extend_from_slice-in-Some-clause-made :
    goal.returns-in_ok-extend_from_slice-in-Some-clause-made
returns-in_ok-extend_from_slice-in-Some-clause-made c =
    let first = rw c.deref.ensures.value at c.in-Some.ensures.place in
    is_there-written_same _ _ _ _ _ first c.index_mut-file.ensures.value refl

pub returns-in_ok-extend_from_slice-in-Some-clause-names :
    goal.returns-in_ok-extend_from_slice-in-Some-clause-names
returns-in_ok-extend_from_slice-in-Some-clause-names c =
    let first = rw c.deref.ensures.value at c.in-Some.ensures.place in
    λ f _. is_there-written _ f _ _ _ first.inside c.index_mut-file.ensures.value refl

pub returns-in_err-extend_from_slice-in-Some-clause-names :
    goal.returns-in_err-extend_from_slice-in-Some-clause-names
returns-in_err-extend_from_slice-in-Some-clause-names c =
    let first = rw c.deref.ensures.value at c.in-Some.ensures.place in
    λ f _. is_there-written _ f _ _ _ first.inside c.index_mut-file.ensures.value refl

pub returns-in_ok-push-in-None-clause-made : goal.returns-in_ok-push-in-None-clause-made
returns-in_ok-push-in-None-clause-made c =
    rw c.in_ok-push-in-None.ensures.items (is_there-made_same _ _ _ c.in_ok-from_str-in-None.ensures.ok)

pub returns-in_ok-push-in-None-clause-names : goal.returns-in_ok-push-in-None-clause-names
returns-in_ok-push-in-None-clause-names c =
    rw c.in_ok-push-in-None.ensures.items (is_there-made_other _ _ _ c.in_ok-from_str-in-None.ensures.ok)
