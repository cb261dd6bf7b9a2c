use Rattle.std.proofs.Common.{◌≡◌, ◌⊎◌, ◌∙◌, ◌<◌, ℕ, List, IsSomeAnd, inl, inr, subst, arith, String, Global}
use Rattle.dw_base.specs.Host.{Rose}
use Rattle.value_links.specs.Same.{Same}
use Rattle.written_files.specs.Placed.{IsPlaced}
use Rattle.written_files.specs.Classes.{HaveLeastCodes, HaveOrderedCodes, HaveLeastColumns, HaveFirstColumns, HaveLeastLists}
use Rattle.written_files.specs.Tidy.{IsTidy}
use Rattle.commands.specs.File.{StaysValid, HasLeastLines, HasOrderedLines, HasLeastLayouts, IsWhole}
use Rattle.commands.specs.Run.{Writes}
use Rattle.commands.specs.Words.{OfShrink, asked}
use Rattle.commands.specs.inside.Said.{EndsFor}
use Rattle.commands.proofs.Ends.{asked_is, not_said, not_rejected, said_well, ends_from, ends_refused, ends_long, ends_stopped, ends_unwritten, ends_risen, no_write_fault, ends_complete, whole_still}
use Rattle.commands.proofs.Shrinks.{writes_part, can_be_checked}
use Rattle.commands.proofs.running.run_in.Given.{Over}
use Rattle.commands.proofs.running.run_in.Goals as goal

-- A FILE WAS WRITTEN

-- a part of what is promised of the output
part : (Q : List ℕ → List ℕ → Type 0) (g : Over) (c : goal.In-Ok g) → ((file written : List ℕ) → IsWhole c.args.classes file written → Q file written) → IsSomeAnd (asked c.args.words.now.items) (OfShrink (λ n. Writes Q (g.H.Host.bytes c.args.host.now) (g.H.Host.bytes c.shrink.new.host) n.input n.output))
part Q g c h =
    let bytes = g.H.Host.bytes in
    rw (asked_is _ _ _ c.in-Some.ensures.asked c.in-Shrink.is) (writes_part (IsWhole c.args.classes) Q (bytes c.args.host.now) (bytes c.shrink.new.host) c.in-Shrink.names.input.now c.in-Shrink.names.output.now h c.in-Ok.ensures.written)

pub returns-in-Ok-clause-same : goal.returns-in-Ok-clause-same
returns-in-Ok-clause-same g c = λ zero. part Same g c (λ file written whole. whole.same)

pub returns-in-Ok-clause-still_valid : goal.returns-in-Ok-clause-still_valid
returns-in-Ok-clause-still_valid g c = λ zero. part StaysValid g c (λ file written whole. whole.still_valid)

pub returns-in-Ok-clause-least : goal.returns-in-Ok-clause-least
returns-in-Ok-clause-least g c = λ zero. part (HasLeastLines c.args.classes) g c (λ file written whole. whole.least)

pub returns-in-Ok-clause-order : goal.returns-in-Ok-clause-order
returns-in-Ok-clause-order g c = λ zero. part (HasOrderedLines c.args.classes) g c (λ file written whole. whole.order)

pub returns-in-Ok-clause-lists : goal.returns-in-Ok-clause-lists
returns-in-Ok-clause-lists g c = λ zero. part (HaveLeastLists c.args.classes) g c (λ file written whole. whole.lists)

pub returns-in-Ok-clause-columns : goal.returns-in-Ok-clause-columns
returns-in-Ok-clause-columns g c = λ zero. part (HaveLeastColumns c.args.classes) g c (λ file written whole. whole.columns)

pub returns-in-Ok-clause-columns_order : goal.returns-in-Ok-clause-columns_order
returns-in-Ok-clause-columns_order g c = λ zero. part (HaveFirstColumns c.args.classes) g c (λ file written whole. whole.columns_order)

pub returns-in-Ok-clause-codes : goal.returns-in-Ok-clause-codes
returns-in-Ok-clause-codes g c = λ zero. part HaveLeastCodes g c (λ file written whole. whole.codes)

pub returns-in-Ok-clause-codes_order : goal.returns-in-Ok-clause-codes_order
returns-in-Ok-clause-codes_order g c = λ zero. part HaveOrderedCodes g c (λ file written whole. whole.codes_order)

pub returns-in-Ok-clause-layouts : goal.returns-in-Ok-clause-layouts
returns-in-Ok-clause-layouts g c = λ zero. part HasLeastLayouts g c (λ file written whole. whole.layouts)

pub returns-in-Ok-clause-tidy : goal.returns-in-Ok-clause-tidy
returns-in-Ok-clause-tidy g c = λ zero. part IsTidy g c (λ file written whole. whole.tidy)

pub returns-in-Ok-clause-placed : goal.returns-in-Ok-clause-placed
returns-in-Ok-clause-placed g c = λ zero. part IsPlaced g c (λ file written whole. whole.placed)

pub returns-in-Ok-clause-acceptable : goal.returns-in-Ok-clause-acceptable
returns-in-Ok-clause-acceptable g c = λ zero.
    let bytes = g.H.Host.bytes in
    let names = c.in-Shrink.names in
    let apart = rw c.in-Shrink.is at c.in-Some.ensures.right in
    rw (asked_is _ _ _ c.in-Some.ensures.asked c.in-Shrink.is) (can_be_checked c.args.classes (bytes c.args.host.now) (bytes c.shrink.new.host) (record { input = names.input.now; output = names.output.now; certificate = names.certificate.now }) (c.shrink.ensures.others names.input.now apart.0 apart.1.0) c.in-Ok.ensures.accepted)

pub returns-in-Ok-clause-write_rose : goal.returns-in-Ok-clause-write_rose
returns-in-Ok-clause-write_rose g c =
    let still = c.in-Ok.ensures.writes in
    rw (asked_is _ _ _ c.in-Some.ensures.asked c.in-Shrink.is) (λ f output rose. absurd (omega (arith, still f, rose)))

pub returns-in-Ok-clause-others : goal.returns-in-Ok-clause-others
returns-in-Ok-clause-others g c =
    let kept = c.shrink.ensures.others in
    rw (asked_is _ _ _ c.in-Some.ensures.asked c.in-Shrink.is) (λ f other. kept f (λ e. other (inl e)) (λ e. other (inr e)))

-- NO FILE WAS WRITTEN

-- the end after all calls
shrink_ends : (g : Over) (c : goal.After-end g) → EndsFor c.in-Err.ending (g.H.Host.said c.args.host.now) (g.H.Host.said c.end.new.host) (g.H.Host.say_faults c.args.host.now) (g.H.Host.say_faults c.end.new.host) c.end.result
shrink_ends g c =
    let host = g.H.Host in
    ends_from c.in-Err.ending (host.said c.args.host.now) (host.said c.shrink.new.host) (host.said c.end.new.host) (host.say_faults c.args.host.now) (host.say_faults c.shrink.new.host) (host.say_faults c.end.new.host) c.end.result c.shrink.ensures.said c.shrink.ensures.says c.end.ensures.ends

pub returns-in-Err-clause-refused : goal.returns-in-Err-clause-refused
returns-in-Err-clause-refused g c = λ three.
    let host = g.H.Host in
    rw (asked_is _ _ _ c.in-Some.ensures.asked c.in-Shrink.is) (ends_refused (Unit {0}) (host.bytes c.args.host.now c.in-Shrink.names.input.now) c.in-Err.ending (host.said c.args.host.now) (host.said c.end.new.host) (host.say_faults c.args.host.now) (host.say_faults c.end.new.host) c.end.result c.in-Err.ensures.refused (shrink_ends g c) three)

pub returns-in-Err-clause-long : goal.returns-in-Err-clause-long
returns-in-Err-clause-long g c = λ three.
    let host = g.H.Host in
    rw (asked_is _ _ _ c.in-Some.ensures.asked c.in-Shrink.is) (ends_long (Unit {0}) (host.bytes c.args.host.now c.in-Shrink.names.input.now) c.in-Err.ending (host.said c.args.host.now) (host.said c.end.new.host) (host.say_faults c.args.host.now) (host.say_faults c.end.new.host) c.end.result c.in-Err.ensures.long (shrink_ends g c) three)

pub returns-in-Err-clause-write_fault : goal.returns-in-Err-clause-write_fault
returns-in-Err-clause-write_fault g c = λ five.
    let host = g.H.Host in
    let faults = host.write_faults in
    let output = c.in-Shrink.names.output.now in
    let certificate = c.in-Shrink.names.certificate.now in
    let before = Rose (faults c.args.host.now output) (faults c.shrink.new.host output) ⊎ Rose (faults c.args.host.now certificate) (faults c.shrink.new.host certificate) in
    let fails = ends_unwritten (Unit {0}) (host.bytes c.args.host.now c.in-Shrink.names.input.now) c.in-Err.ending (host.said c.args.host.now) (host.said c.end.new.host) (host.say_faults c.args.host.now) (host.say_faults c.end.new.host) c.end.result before (faults c.args.host.now) (faults c.shrink.new.host) c.in-Err.ensures.refused c.in-Err.ensures.writes (shrink_ends g c) five in
    rw (asked_is _ _ _ c.in-Some.ensures.asked c.in-Shrink.is, c.end.ensures.writes output, c.end.ensures.writes certificate) fails

pub returns-in-Err-clause-write_rose : goal.returns-in-Err-clause-write_rose
returns-in-Err-clause-write_rose g c =
    let host = g.H.Host in
    let faults = host.write_faults in
    let output = c.in-Shrink.names.output.now in
    let certificate = c.in-Shrink.names.certificate.now in
    let before = Rose (faults c.args.host.now output) (faults c.shrink.new.host output) ⊎ Rose (faults c.args.host.now certificate) (faults c.shrink.new.host certificate) in
    let still = c.end.ensures.writes in
    rw (asked_is _ _ _ c.in-Some.ensures.asked c.in-Shrink.is) (λ f output rose. ends_risen (Unit {0}) c.in-Err.ending (host.said c.args.host.now) (host.said c.end.new.host) (host.say_faults c.args.host.now) (host.say_faults c.end.new.host) c.end.result before (faults c.args.host.now) (faults c.shrink.new.host) f c.in-Err.ensures.writes (shrink_ends g c) (omega (arith, still f, rose)))

pub returns-in-Err-clause-others : goal.returns-in-Err-clause-others
returns-in-Err-clause-others g c =
    let kept = c.shrink.ensures.others in
    let still = c.end.ensures.files in
    rw (asked_is _ _ _ c.in-Some.ensures.asked c.in-Shrink.is) (λ f other. still f ∙ kept f (λ e. other (inl e)) (λ e. other (inr e)))

pub returns-in-Err-clause-faulty_kept : goal.returns-in-Err-clause-faulty_kept
returns-in-Err-clause-faulty_kept g c =
    let kept = c.shrink.ensures.faulty_kept in
    let still = c.end.ensures.files in
    rw (asked_is _ _ _ c.in-Some.ensures.asked c.in-Shrink.is) (λ file told faulty f. still f ∙ kept file told faulty f)

pub returns-in-Err-clause-faulty_unwritten : goal.returns-in-Err-clause-faulty_unwritten
returns-in-Err-clause-faulty_unwritten g c =
    let kept = c.shrink.ensures.faulty_unwritten in
    let still = c.end.ensures.writes in
    rw (asked_is _ _ _ c.in-Some.ensures.asked c.in-Shrink.is) (λ file told faulty f. still f ∙ kept file told faulty f)

pub returns-in-Err-clause-output_whole : goal.returns-in-Err-clause-output_whole
returns-in-Err-clause-output_whole g c =
    let bytes = g.H.Host.bytes in
    let faults = g.H.Host.write_faults in
    let names = c.in-Shrink.names in
    let either = c.shrink.ensures.whole in
    rw (asked_is _ _ _ c.in-Some.ensures.asked c.in-Shrink.is) (λ some. whole_still (IsWhole c.args.classes) (bytes c.args.host.now) (bytes c.shrink.new.host) (bytes c.end.new.host) (faults c.args.host.now) (faults c.shrink.new.host) (faults c.end.new.host) names.input.now names.output.now names.certificate.now c.end.ensures.files c.end.ensures.writes (either some))

pub returns-in-Err-clause-stopped : goal.returns-in-Err-clause-stopped
returns-in-Err-clause-stopped g c = λ late.
    let host = g.H.Host in
    rw (asked_is _ _ _ c.in-Some.ensures.asked c.in-Shrink.is) (ends_stopped (Unit {0}) (host.bytes c.args.host.now c.in-Shrink.names.input.now) c.in-Err.ending (host.said c.args.host.now) (host.said c.end.new.host) (host.say_faults c.args.host.now) (host.say_faults c.end.new.host) c.end.result c.in-Err.ensures.refused (shrink_ends g c) late)

pub returns-in-Err-clause-complete : goal.returns-in-Err-clause-complete
returns-in-Err-clause-complete g c =
    let host = g.H.Host in
    let faults = host.write_faults in
    let input = c.in-Shrink.names.input.now in
    let output = c.in-Shrink.names.output.now in
    let certificate = c.in-Shrink.names.certificate.now in
    let before = Rose (faults c.args.host.now output) (faults c.shrink.new.host output) ⊎ Rose (faults c.args.host.now certificate) (faults c.shrink.new.host certificate) in
    rw (asked_is _ _ _ c.in-Some.ensures.asked c.in-Shrink.is, c.end.ensures.reads input, c.end.ensures.writes output, c.end.ensures.writes certificate) (λ read still well.
    let calm : ¬ before = (λ rose. elim rose [ inl r ↦ well.0 r | inr r ↦ well.1 r ]) in
    ends_complete (Unit {0}) (host.bytes c.args.host.now input) c.in-Err.ending (host.said c.args.host.now) (host.said c.end.new.host) (host.say_faults c.args.host.now) (host.say_faults c.end.new.host) c.end.result (host.read_faults c.args.host.now input) (host.read_faults c.shrink.new.host input) c.in-Err.ensures.refused c.in-Err.ensures.reads (no_write_fault (Unit {0}) c.in-Err.ending before (faults c.args.host.now) (faults c.shrink.new.host) c.in-Err.ensures.writes calm) (shrink_ends g c) read.0 read.1 read.2 still)

-- FILES WERE CHECKED

pub returns-in-Check-clause-accepted : goal.returns-in-Check-clause-accepted
returns-in-Check-clause-accepted g c = λ zero. rw (asked_is _ _ _ c.in-Some.ensures.asked c.in-Check.is) (c.check.ensures.ends.accepted zero)

pub returns-in-Check-clause-accepted_least : goal.returns-in-Check-clause-accepted_least
returns-in-Check-clause-accepted_least g c = λ zero. rw (asked_is _ _ _ c.in-Some.ensures.asked c.in-Check.is) (c.check.ensures.ends.least zero)

pub returns-in-Check-clause-accepted_kept : goal.returns-in-Check-clause-accepted_kept
returns-in-Check-clause-accepted_kept g c = λ zero. rw (asked_is _ _ _ c.in-Some.ensures.asked c.in-Check.is) (c.check.ensures.ends.kept zero)

pub returns-in-Check-clause-complete : goal.returns-in-Check-clause-complete
returns-in-Check-clause-complete g c =
    let ends = c.check.ensures.ends in
    rw (asked_is _ _ _ c.in-Some.ensures.asked c.in-Check.is) ends.complete

pub returns-in-Check-clause-refuses : goal.returns-in-Check-clause-refuses
returns-in-Check-clause-refuses g c =
    let ends = c.check.ensures.ends in
    rw (asked_is _ _ _ c.in-Some.ensures.asked c.in-Check.is) ends.refuses

pub returns-in-Check-clause-rejects : goal.returns-in-Check-clause-rejects
returns-in-Check-clause-rejects g c =
    let ends = c.check.ensures.ends in
    rw (asked_is _ _ _ c.in-Some.ensures.asked c.in-Check.is) ends.rejects

-- A LINE WAS TO BE SAID

pub returns-in-Ok-summarise-clause-words : goal.returns-in-Ok-summarise-clause-words
returns-in-Ok-summarise-clause-words g c = λ two. absurd (not_said _ _ _ c.say-in-Ok-summarise.ensures.answer (inl two))

pub returns-in-Ok-summarise-clause-words_said : goal.returns-in-Ok-summarise-clause-words_said
returns-in-Ok-summarise-clause-words_said g c = λ two. absurd (not_said _ _ _ c.say-in-Ok-summarise.ensures.answer (inl two))

pub returns-in-Ok-summarise-clause-refused : goal.returns-in-Ok-summarise-clause-refused
returns-in-Ok-summarise-clause-refused g c = λ three. absurd (not_said _ _ _ c.say-in-Ok-summarise.ensures.answer (inr (inl three)))

pub returns-in-Ok-summarise-clause-long : goal.returns-in-Ok-summarise-clause-long
returns-in-Ok-summarise-clause-long g c = λ three. absurd (not_said _ _ _ c.say-in-Ok-summarise.ensures.answer (inr (inl three)))

pub returns-in-Ok-summarise-clause-read_fault : goal.returns-in-Ok-summarise-clause-read_fault
returns-in-Ok-summarise-clause-read_fault g c = λ four. absurd (not_said _ _ _ c.say-in-Ok-summarise.ensures.answer (inr (inr four)))

pub returns-in-Ok-summarise-clause-read_rose : goal.returns-in-Ok-summarise-clause-read_rose
returns-in-Ok-summarise-clause-read_rose g c =
    let still : g.H.Host.read_faults c.say-in-Ok-summarise.new.host c.in-Stat.input.now ≡ g.H.Host.read_faults c.args.host.now c.in-Stat.input.now = c.say-in-Ok-summarise.ensures.reads c.in-Stat.input.now ∙ c.in-Ok-summarise.ensures.reads in
    rw (asked_is _ _ _ c.in-Some.ensures.asked c.in-Stat.is) (λ f is rose. absurd (omega (arith, still, subst (λ (z : List ℕ). g.H.Host.read_faults c.args.host.now z < g.H.Host.read_faults c.say-in-Ok-summarise.new.host z) is rose)))

pub returns-in-Ok-summarise-clause-write_fault : goal.returns-in-Ok-summarise-clause-write_fault
returns-in-Ok-summarise-clause-write_fault g c = λ five.
    let rose = rw c.in-Ok-summarise.ensures.says at c.say-in-Ok-summarise.ensures.answer.failed five in
    rw (asked_is _ _ _ c.in-Some.ensures.asked c.in-Stat.is) rose

pub returns-in-Ok-summarise-clause-kept : goal.returns-in-Ok-summarise-clause-kept
returns-in-Ok-summarise-clause-kept g c = λ late. absurd (not_said _ _ _ c.say-in-Ok-summarise.ensures.answer late)

pub returns-in-Ok-summarise-clause-faulty_kept : goal.returns-in-Ok-summarise-clause-faulty_kept
returns-in-Ok-summarise-clause-faulty_kept g c =
    let still = c.say-in-Ok-summarise.ensures.files in
    let kept = c.summarise.ensures.files in
    rw (asked_is _ _ _ c.in-Some.ensures.asked c.in-Stat.is) (λ file told faulty f. still f ∙ kept f)

pub returns-in-Ok-summarise-clause-faulty_unwritten : goal.returns-in-Ok-summarise-clause-faulty_unwritten
returns-in-Ok-summarise-clause-faulty_unwritten g c =
    let still = c.say-in-Ok-summarise.ensures.writes in
    let kept = c.summarise.ensures.writes in
    rw (asked_is _ _ _ c.in-Some.ensures.asked c.in-Stat.is) (λ file told faulty f. still f ∙ kept f)

pub returns-in-Ok-summarise-clause-others : goal.returns-in-Ok-summarise-clause-others
returns-in-Ok-summarise-clause-others g c =
    let still = c.say-in-Ok-summarise.ensures.files in
    let kept = c.summarise.ensures.files in
    rw (asked_is _ _ _ c.in-Some.ensures.asked c.in-Stat.is) (λ f other. still f ∙ kept f)

pub returns-in-Ok-summarise-clause-stat_unwritten : goal.returns-in-Ok-summarise-clause-stat_unwritten
returns-in-Ok-summarise-clause-stat_unwritten g c =
    let still = c.say-in-Ok-summarise.ensures.writes in
    let kept = c.summarise.ensures.writes in
    rw (asked_is _ _ _ c.in-Some.ensures.asked c.in-Stat.is) (λ f. still f ∙ kept f)

pub returns-in-Ok-summarise-clause-done : goal.returns-in-Ok-summarise-clause-done
returns-in-Ok-summarise-clause-done g c = λ zero. rw (asked_is _ _ _ c.in-Some.ensures.asked c.in-Stat.is) c.in-Ok-summarise.ensures.valid

pub returns-in-Ok-summarise-clause-rejected : goal.returns-in-Ok-summarise-clause-rejected
returns-in-Ok-summarise-clause-rejected g c = λ seven. absurd (not_rejected _ _ _ c.say-in-Ok-summarise.ensures.answer seven)

pub returns-in-Ok-summarise-clause-summed : goal.returns-in-Ok-summarise-clause-summed
returns-in-Ok-summarise-clause-summed g c = λ zero.
    let (file, read, line) = c.in-Ok-summarise.ensures.line in
    let text = c.as_bytes.ensures.value ∙ line.3 in
    let said = rw (text, c.summarise.ensures.said) at c.say-in-Ok-summarise.ensures.said zero in
    rw (asked_is _ _ _ c.in-Some.ensures.asked c.in-Stat.is) (file, line.0, line.1, read, line.2, said)

pub returns-in-Ok-summarise-clause-quiet : goal.returns-in-Ok-summarise-clause-quiet
returns-in-Ok-summarise-clause-quiet g c = λ four. absurd (not_said _ _ _ c.say-in-Ok-summarise.ensures.answer (inr (inr four)))

pub returns-in-Ok-summarise-clause-stopped : goal.returns-in-Ok-summarise-clause-stopped
returns-in-Ok-summarise-clause-stopped g c = λ late.
    let (file, read, line) = c.in-Ok-summarise.ensures.line in
    let text = c.as_bytes.ensures.value ∙ line.3 in
    let front = rw (text, c.summarise.ensures.said) at c.say-in-Ok-summarise.ensures.part late in
    rw (asked_is _ _ _ c.in-Some.ensures.asked c.in-Stat.is) (inr (file, line.0, line.1, read, line.2, front))

pub returns-in-Ok-summarise-clause-complete : goal.returns-in-Ok-summarise-clause-complete
returns-in-Ok-summarise-clause-complete g c =
    let answer = rw c.in-Ok-summarise.ensures.says at c.say-in-Ok-summarise.ensures.answer in
    rw (asked_is _ _ _ c.in-Some.ensures.asked c.in-Stat.is) (λ read still well. said_well _ _ _ answer well)

pub returns-in-Ok-summarise-clause-refuses : goal.returns-in-Ok-summarise-clause-refuses
returns-in-Ok-summarise-clause-refuses g c =
    let valid = c.in-Ok-summarise.ensures.valid in
    rw (asked_is _ _ _ c.in-Some.ensures.asked c.in-Stat.is) (λ fault still. absurd (fault.2 (valid fault.0 fault.1)))

-- THERE WAS NONE

-- the end after all calls
stat_ends : (g : Over) (c : goal.After-end-in-Err-summarise g) → EndsFor c.in-Err-summarise.ending (g.H.Host.said c.args.host.now) (g.H.Host.said c.end-in-Err-summarise.new.host) (g.H.Host.say_faults c.args.host.now) (g.H.Host.say_faults c.end-in-Err-summarise.new.host) c.end-in-Err-summarise.result
stat_ends g c =
    let host = g.H.Host in
    ends_from c.in-Err-summarise.ending (host.said c.args.host.now) (host.said c.summarise.new.host) (host.said c.end-in-Err-summarise.new.host) (host.say_faults c.args.host.now) (host.say_faults c.summarise.new.host) (host.say_faults c.end-in-Err-summarise.new.host) c.end-in-Err-summarise.result c.summarise.ensures.said c.summarise.ensures.says c.end-in-Err-summarise.ensures.ends

pub returns-in-Err-summarise-clause-refused : goal.returns-in-Err-summarise-clause-refused
returns-in-Err-summarise-clause-refused g c = λ three.
    let host = g.H.Host in
    rw (asked_is _ _ _ c.in-Some.ensures.asked c.in-Stat.is) (ends_refused (String Global) (host.bytes c.args.host.now c.in-Stat.input.now) c.in-Err-summarise.ending (host.said c.args.host.now) (host.said c.end-in-Err-summarise.new.host) (host.say_faults c.args.host.now) (host.say_faults c.end-in-Err-summarise.new.host) c.end-in-Err-summarise.result c.in-Err-summarise.ensures.refused (stat_ends g c) three)

pub returns-in-Err-summarise-clause-stopped : goal.returns-in-Err-summarise-clause-stopped
returns-in-Err-summarise-clause-stopped g c = λ late.
    let host = g.H.Host in
    rw (asked_is _ _ _ c.in-Some.ensures.asked c.in-Stat.is) (inl (ends_stopped (String Global) (host.bytes c.args.host.now c.in-Stat.input.now) c.in-Err-summarise.ending (host.said c.args.host.now) (host.said c.end-in-Err-summarise.new.host) (host.say_faults c.args.host.now) (host.say_faults c.end-in-Err-summarise.new.host) c.end-in-Err-summarise.result c.in-Err-summarise.ensures.refused (stat_ends g c) late))

pub returns-in-Err-summarise-clause-complete : goal.returns-in-Err-summarise-clause-complete
returns-in-Err-summarise-clause-complete g c =
    let host = g.H.Host in
    let input = c.in-Stat.input.now in
    rw (asked_is _ _ _ c.in-Some.ensures.asked c.in-Stat.is, c.end-in-Err-summarise.ensures.reads input) (λ read still well.
    ends_complete (String Global) (host.bytes c.args.host.now input) c.in-Err-summarise.ending (host.said c.args.host.now) (host.said c.end-in-Err-summarise.new.host) (host.say_faults c.args.host.now) (host.say_faults c.end-in-Err-summarise.new.host) c.end-in-Err-summarise.result (host.read_faults c.args.host.now input) (host.read_faults c.summarise.new.host input) c.in-Err-summarise.ensures.refused c.in-Err-summarise.ensures.reads c.in-Err-summarise.ensures.unwritten (stat_ends g c) read.0 read.1 read.2 still)
