use Rattle.std.proofs.Common.{◌≡◌, ◌<◌, ◌+◌, ◌*◌, ◌∙◌, min, refl, arith, inl, inr}
use Rattle.std.specs.Prelude.{◌-ℤ◌}
use Rattle.std.proofs.lemmas.Int.{ints}
use Rattle.std.proofs.lemmas.Bool.{cases_lt}
use Rattle.line_sums.specs.Sums.{base_at}
use Rattle.line_sums.proofs.NearRuns.{places_rise, near_room, near_adds, far_above, near_above, near_below, far_below}
use Rattle.line_sums.proofs.LineRuns.{run_within}
use Rattle.line_sums.proofs.sums.add_near.Goals as goal

pub add_between-requires-2-clause-order : goal.add_between-requires-2-clause-order
add_between-requires-2-clause-order c = places_rise _ _ _ _ _ (omega (arith, ints)) c.places_above-above_near.ensures.within c.places_above-above_near.ensures.before c.places_above-above.ensures.after

pub add_between-requires-3-clause-order : goal.add_between-requires-3-clause-order
add_between-requires-3-clause-order c = places_rise _ _ _ _ _ (omega (arith, ints)) c.places_above-above.ensures.within c.places_above-above.ensures.before c.places_above-reached.ensures.after

pub add_between-requires-4-clause-order : goal.add_between-requires-4-clause-order
add_between-requires-4-clause-order c = places_rise _ _ _ _ _ (omega (arith, ints)) c.places_above-reached.ensures.within c.places_above-reached.ensures.before c.places_above-below_near.ensures.after

pub add_between-requires-3-clause-room : goal.add_between-requires-3-clause-room
add_between-requires-3-clause-room c = λ place later h.
    let inside : place < 256 = omega (arith, c.places_above-reached.ensures.within) in
    let order = places_rise _ _ _ _ _ (omega (arith, ints)) c.places_above-above_near.ensures.within c.places_above-above_near.ensures.before c.places_above-above.ensures.after in
    let same = c.add_between-2.ensures.after place later inside ∙ c.add_between.ensures.after place (omega arith) inside in
    near_room _ _ c.args.count c.min.result _ (c.requires.room place inside) same (omega arith) (omega (arith, c.min.ensures, c.requires.few)) (cc (c.from.ensures, c.from-2.ensures))

pub add_between-requires-4-clause-room : goal.add_between-requires-4-clause-room
add_between-requires-4-clause-room c = λ place later h.
    let inside : place < 256 = omega (arith, c.places_above-below_near.ensures.within) in
    let first = places_rise _ _ _ _ _ (omega (arith, ints)) c.places_above-above_near.ensures.within c.places_above-above_near.ensures.before c.places_above-above.ensures.after in
    let second = places_rise _ _ _ _ _ (omega (arith, ints)) c.places_above-above.ensures.within c.places_above-above.ensures.before c.places_above-reached.ensures.after in
    let same = c.add_between-3.ensures.after place later inside ∙ c.add_between-2.ensures.after place (omega arith) inside ∙ c.add_between.ensures.after place (omega arith) inside in
    near_room _ _ c.args.count c.min-2.result _ (c.requires.room place inside) same (omega arith) (omega (arith, c.min-2.ensures, c.requires.few)) (cc (c.from-3.ensures, c.from-4.ensures))

pub add_between-requires-5-clause-room : goal.add_between-requires-5-clause-room
add_between-requires-5-clause-room c = λ place later inside.
    let first = places_rise _ _ _ _ _ (omega (arith, ints)) c.places_above-above_near.ensures.within c.places_above-above_near.ensures.before c.places_above-above.ensures.after in
    let second = places_rise _ _ _ _ _ (omega (arith, ints)) c.places_above-above.ensures.within c.places_above-above.ensures.before c.places_above-reached.ensures.after in
    let third = places_rise _ _ _ _ _ (omega (arith, ints)) c.places_above-reached.ensures.within c.places_above-reached.ensures.before c.places_above-below_near.ensures.after in
    let same = c.add_between-4.ensures.after place later inside ∙ c.add_between-3.ensures.after place (omega arith) inside ∙ c.add_between-2.ensures.after place (omega arith) inside ∙ c.add_between.ensures.after place (omega arith) inside in
    near_room _ _ c.args.count c.min-3.result _ (c.requires.room place inside) same (omega arith) (omega (arith, c.min-3.ensures, c.requires.few)) (cc (c.from-5.ensures, c.from-6.ensures))

pub returns : goal.returns
returns c = λ windows wide last place inside.
    let first = places_rise _ _ _ _ _ (omega (arith, ints)) c.places_above-above_near.ensures.within c.places_above-above_near.ensures.before c.places_above-above.ensures.after in
    let second = places_rise _ _ _ _ _ (omega (arith, ints)) c.places_above-above.ensures.within c.places_above-above.ensures.before c.places_above-reached.ensures.after in
    let third = places_rise _ _ _ _ _ (omega (arith, ints)) c.places_above-reached.ensures.within c.places_above-reached.ensures.before c.places_above-below_near.ensures.after in
    let left = c.args.line -ℤ base_at place in
    let far : c.from-5.result * c.from-6.result ≡ c.args.count * min c.args.copy (1 + c.args.window.address + 3) = rw (c.from-5.ensures, c.from-6.ensures, c.min-3.ensures) refl in
    let near : c.from-3.result * c.from-4.result ≡ c.args.count * min c.args.copy (1 + c.args.window.address + 2) = rw (c.from-3.ensures, c.from-4.ensures, c.min-2.ensures) refl in
    let special : c.from.result * c.from-2.result ≡ c.args.count * min c.args.copy (1 + c.args.window.address + 0) = let none : 1 + c.args.window.address + 0 ≡ 1 + c.args.window.address = omega arith in rw (c.from.ensures, c.from-2.ensures, c.min.ensures, none) refl in
    elim (cases_lt place c.places_above-above_near.result) [
      | inl h ↦
          let cost = far_above left c.args.window.most (omega (arith, ints, c.from-most.ensures, c.places_above-above_near.ensures.before place h)) (omega (arith, ints, c.requires.high)) in
          near_adds c.args.line c.args.copy c.args.count place _ _ _ 3 c.args.window windows wide last cost far
          (c.add_between-5.ensures.before place (omega arith) ∙ c.add_between-4.ensures.before place (omega arith) ∙ c.add_between-3.ensures.before place (omega arith) ∙ c.add_between-2.ensures.before place h ∙ c.add_between.ensures.added place (omega arith) h)
      | inr from ↦
          let one = c.add_between.ensures.after place from inside in
          elim (cases_lt place c.places_above-above.result) [
            | inl h ↦
                let cost = near_above left c.args.window.most (omega (arith, ints, c.from-most.ensures, c.places_above-above.ensures.before place h)) (omega (arith, ints, c.from-most.ensures, c.places_above-above_near.ensures.after place from inside)) in
                near_adds c.args.line c.args.copy c.args.count place _ _ _ 2 c.args.window windows wide last cost near
                (omega (arith, c.add_between-5.ensures.before place (omega arith), c.add_between-4.ensures.before place (omega arith), c.add_between-3.ensures.before place h, c.add_between-2.ensures.added place from h, one))
            | inr from' ↦
                let two = c.add_between-2.ensures.after place from' inside in
                elim (cases_lt place c.places_above-reached.result) [
                  | inl h ↦
                      let cost = run_within c.args.window.most left (omega (arith, ints, c.places_above-reached.ensures.before place h)) (omega (arith, ints, c.from-most.ensures, c.places_above-above.ensures.after place from' inside)) in
                      near_adds c.args.line c.args.copy c.args.count place _ _ _ 0 c.args.window windows wide last cost special
                      (omega (arith, c.add_between-5.ensures.before place (omega arith), c.add_between-4.ensures.before place h, c.add_between-3.ensures.added place from' h, two, one))
                  | inr from'' ↦
                      let three = c.add_between-3.ensures.after place from'' inside in
                      elim (cases_lt place c.places_above-below_near.result) [
                        | inl h ↦
                            let cost = near_below left c.args.window.most (omega (arith, ints, c.places_above-below_near.ensures.before place h)) (omega (arith, ints, c.places_above-reached.ensures.after place from'' inside)) in
                            near_adds c.args.line c.args.copy c.args.count place _ _ _ 2 c.args.window windows wide last cost near
                            (omega (arith, c.add_between-5.ensures.before place h, c.add_between-4.ensures.added place from'' h, three, two, one))
                        | inr from''' ↦
                            let cost = far_below left c.args.window.most (omega (arith, ints, c.requires.low)) (omega (arith, ints, c.places_above-below_near.ensures.after place from''' inside)) in
                            near_adds c.args.line c.args.copy c.args.count place _ _ _ 3 c.args.window windows wide last cost far
                            (omega (arith, c.add_between-5.ensures.added place from''' inside, c.add_between-4.ensures.after place from''' inside, three, two, one))
                      ]
                ]
          ]
    ]
