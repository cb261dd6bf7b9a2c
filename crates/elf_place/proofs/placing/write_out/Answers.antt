use Rattle.std.proofs.Common.{◌≡◌, ◌+◌, ◌*◌, ◌++◌, ◌∙◌, ℕ, List, length, take, ap, subst, sym, arith}
use Rattle.std.proofs.lemmas.List.{length-take-le}
use Rattle.elf_sections.specs.Elf.{fixed_end_of, section_count}
use Rattle.elf_place.specs.Bodies.{body_after}
use Rattle.elf_place.specs.inside.Spots.{IsChain, IsPatched, IsWritten, filled, laid, unpatched, headers_of}
use Rattle.elf_place.specs.declared.spots.Spot.{Spot}
use Rattle.elf_place.proofs.ReadLaws.{fixed_end-within}
use Rattle.elf_place.proofs.WriteLaws.{length-body, length-whole, fixed_end-low, chain-start}
use Rattle.elf_place.proofs.Ranges.{written_whole}
use Rattle.elf_place.proofs.placing.write_out.Goals as goal

pub slice_bounds-extend_from_slice-end : goal.slice_bounds-extend_from_slice-end
slice_bounds-extend_from_slice-end c =
    let within = fixed_end-within c.args.image.now c.whole.ensures.read c.requires.some in
    let size : length c.whole.result.now ≡ length c.args.image.now = ap (λ (xs : List ℕ). length xs) c.whole.ensures.bytes in
    sym (length-take-le c.fixed_end.result c.whole.result.now (omega (arith, size, within.1)))

pub push_bodies-requires-clause-room : goal.push_bodies-requires-clause-room
push_bodies-requires-clause-room c =
    let image = c.args.image.now in
    let bytes = body_after image c.args.bodies.now in
    let spots = c.args.plan.now.spots.items in
    let end = c.args.plan.now.end in
    let chain = chain-start image bytes spots end c.next_multiple-headers.result c.whole.ensures.read c.requires.some c.requires.chain c.next_multiple-headers.ensures.next in
    let front : c.extend_from_slice.new.self.items ≡ take (fixed_end_of image) image =
    c.in_ok-extend_from_slice.ensures.items ∙ ap (λ (o : List ℕ). o ++ take c.fixed_end.result c.whole.result.now) c.in_ok-out.ensures.items ∙ ap (λ (n : ℕ). take n c.whole.result.now) c.fixed_end.ensures.value ∙ ap (λ (xs : List ℕ). take (fixed_end_of image) xs) c.whole.ensures.bytes in
    let from : IsChain image bytes (length c.extend_from_slice.new.self.items) spots end = subst (λ (o : List ℕ). IsChain image bytes (length o) spots end) (sym front) chain in
    (end, subst (λ (all : List Spot). IsChain image bytes (length c.extend_from_slice.new.self.items) all end) (sym c.deref.ensures.value) from)

pub fill-requires : goal.fill-requires
fill-requires c =
    let image = c.args.image.now in
    let bytes = body_after image c.args.bodies.now in
    let spots = c.args.plan.now.spots.items in
    let end = c.args.plan.now.end in
    let size = length-body image bytes spots end c.next_multiple-headers.result c.whole.ensures.read c.requires.some c.requires.chain c.next_multiple-headers.ensures.next in
    let front : c.extend_from_slice.new.self.items ≡ take (fixed_end_of image) image =
    c.in_ok-extend_from_slice.ensures.items ∙ ap (λ (o : List ℕ). o ++ take c.fixed_end.result c.whole.result.now) c.in_ok-out.ensures.items ∙ ap (λ (n : ℕ). take n c.whole.result.now) c.fixed_end.ensures.value ∙ ap (λ (xs : List ℕ). take (fixed_end_of image) xs) c.whole.ensures.bytes in
    let body : c.push_bodies.new.out.items ≡ laid bytes (take (fixed_end_of image) image) spots =
    c.in_ok-push_bodies.ensures ∙ ap (λ (o : List ℕ). laid bytes o c.deref.result.now) front ∙ ap (λ (all : List Spot). laid bytes (take (fixed_end_of image) image) all) c.deref.ensures.value in
    omega (arith, ap (λ (xs : List ℕ). length xs) body, size, c.next_multiple-headers.ensures.next.from)

pub put_places-requires-clause-low : goal.put_places-requires-clause-low
put_places-requires-clause-low c =
    let image = c.args.image.now in
    let within = fixed_end-within image c.whole.ensures.read c.requires.some in
    let low = fixed_end-low image (body_after image c.args.bodies.now) c.args.plan.now.spots.items c.args.plan.now.end c.next_multiple-headers.result c.whole.ensures.read c.requires.some c.requires.chain c.next_multiple-headers.ensures.next in
    omega (arith, within.0, low, c.next_multiple-headers.ensures.next.from)

pub put_places-requires-clause-header : goal.put_places-requires-clause-header
put_places-requires-clause-header c =
    let image = c.args.image.now in
    let bytes = body_after image c.args.bodies.now in
    let spots = c.args.plan.now.spots.items in
    let end = c.args.plan.now.end in
    let table = c.next_multiple-headers.result in
    let front : c.extend_from_slice.new.self.items ≡ take (fixed_end_of image) image =
    c.in_ok-extend_from_slice.ensures.items ∙ ap (λ (o : List ℕ). o ++ take c.fixed_end.result c.whole.result.now) c.in_ok-out.ensures.items ∙ ap (λ (n : ℕ). take n c.whole.result.now) c.fixed_end.ensures.value ∙ ap (λ (xs : List ℕ). take (fixed_end_of image) xs) c.whole.ensures.bytes in
    let body : c.push_bodies.new.out.items ≡ laid bytes (take (fixed_end_of image) image) spots =
    c.in_ok-push_bodies.ensures ∙ ap (λ (o : List ℕ). laid bytes o c.deref.result.now) front ∙ ap (λ (all : List Spot). laid bytes (take (fixed_end_of image) image) all) c.deref.ensures.value in
    let made : c.push_headers.new.out.items ≡ unpatched image bytes spots table =
    c.in_ok-push_headers.ensures ∙ ap (λ (o : List ℕ). o ++ headers_of image (section_count image)) (c.in_ok-fill.ensures ∙ ap (λ (o : List ℕ). filled o table) body) in
    let lent : c.deref_mut.result.now ≡ unpatched image bytes spots table = c.deref_mut.ensures.value ∙ made in
    let size : length c.deref_mut.result.now ≡ table + 64 * section_count image = ap (λ (xs : List ℕ). length xs) lent ∙ length-whole image bytes spots end table c.whole.ensures.read c.requires.some c.requires.chain c.next_multiple-headers.ensures.next in
    let within = fixed_end-within image c.whole.ensures.read c.requires.some in
    let low = fixed_end-low image bytes spots end table c.whole.ensures.read c.requires.some c.requires.chain c.next_multiple-headers.ensures.next in
    omega (arith, within.0, low, c.next_multiple-headers.ensures.next.from, size)

pub put_places-requires-clause-inside : goal.put_places-requires-clause-inside
put_places-requires-clause-inside c =
    let image = c.args.image.now in
    let bytes = body_after image c.args.bodies.now in
    let spots = c.args.plan.now.spots.items in
    let end = c.args.plan.now.end in
    let table = c.next_multiple-headers.result in
    let front : c.extend_from_slice.new.self.items ≡ take (fixed_end_of image) image =
    c.in_ok-extend_from_slice.ensures.items ∙ ap (λ (o : List ℕ). o ++ take c.fixed_end.result c.whole.result.now) c.in_ok-out.ensures.items ∙ ap (λ (n : ℕ). take n c.whole.result.now) c.fixed_end.ensures.value ∙ ap (λ (xs : List ℕ). take (fixed_end_of image) xs) c.whole.ensures.bytes in
    let body : c.push_bodies.new.out.items ≡ laid bytes (take (fixed_end_of image) image) spots =
    c.in_ok-push_bodies.ensures ∙ ap (λ (o : List ℕ). laid bytes o c.deref.result.now) front ∙ ap (λ (all : List Spot). laid bytes (take (fixed_end_of image) image) all) c.deref.ensures.value in
    let made : c.push_headers.new.out.items ≡ unpatched image bytes spots table =
    c.in_ok-push_headers.ensures ∙ ap (λ (o : List ℕ). o ++ headers_of image (section_count image)) (c.in_ok-fill.ensures ∙ ap (λ (o : List ℕ). filled o table) body) in
    let lent : c.deref_mut.result.now ≡ unpatched image bytes spots table = c.deref_mut.ensures.value ∙ made in
    let size : length c.deref_mut.result.now ≡ table + 64 * section_count image = ap (λ (xs : List ℕ). length xs) lent ∙ length-whole image bytes spots end table c.whole.ensures.read c.requires.some c.requires.chain c.next_multiple-headers.ensures.next in
    rw c.deref-2.ensures.value (λ k d lt. omega (arith, size, c.requires.inside k d lt))

pub returns : goal.returns
returns c =
    let image = c.args.image.now in
    let bytes = body_after image c.args.bodies.now in
    let spots = c.args.plan.now.spots.items in
    let end = c.args.plan.now.end in
    let table = c.next_multiple-headers.result in
    let front : c.extend_from_slice.new.self.items ≡ take (fixed_end_of image) image =
    c.in_ok-extend_from_slice.ensures.items ∙ ap (λ (o : List ℕ). o ++ take c.fixed_end.result c.whole.result.now) c.in_ok-out.ensures.items ∙ ap (λ (n : ℕ). take n c.whole.result.now) c.fixed_end.ensures.value ∙ ap (λ (xs : List ℕ). take (fixed_end_of image) xs) c.whole.ensures.bytes in
    let body : c.push_bodies.new.out.items ≡ laid bytes (take (fixed_end_of image) image) spots =
    c.in_ok-push_bodies.ensures ∙ ap (λ (o : List ℕ). laid bytes o c.deref.result.now) front ∙ ap (λ (all : List Spot). laid bytes (take (fixed_end_of image) image) all) c.deref.ensures.value in
    let made : c.push_headers.new.out.items ≡ unpatched image bytes spots table =
    c.in_ok-push_headers.ensures ∙ ap (λ (o : List ℕ). o ++ headers_of image (section_count image)) (c.in_ok-fill.ensures ∙ ap (λ (o : List ℕ). filled o table) body) in
    let lent : c.deref_mut.result.now ≡ unpatched image bytes spots table = c.deref_mut.ensures.value ∙ made in
    let size : length c.deref_mut.result.now ≡ table + 64 * section_count image = ap (λ (xs : List ℕ). length xs) lent ∙ length-whole image bytes spots end table c.whole.ensures.read c.requires.some c.requires.chain c.next_multiple-headers.ensures.next in
    let new = c.put_places.new.file in
    let items = c.push_headers.new.out.items in
    let told : IsPatched table spots c.deref_mut.result.now new = subst (λ (all : List Spot). IsPatched table all c.deref_mut.result.now new) c.deref-2.ensures.value c.put_places.ensures in
    let patched : IsPatched table spots (unpatched image bytes spots table) new = subst (λ (o : List ℕ). IsPatched table spots o new) lent told in
    let long : length new ≡ length items = told.long ∙ ap (λ (xs : List ℕ). length xs) c.deref_mut.ensures.value in
    let whole = written_whole c.push_headers.new.out.len new items long c.push_headers.new.out.ok.0 in
    let done : IsWritten image bytes spots end new = record { table = table; next = c.next_multiple-headers.ensures.next; patched = patched } in
    rw whole done
