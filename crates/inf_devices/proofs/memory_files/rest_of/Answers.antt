use Rattle.std.proofs.Common.{◌≤◌, length, take, drop, sym, ◌∙◌, ap, arith, rules, refl, length-take, length-drop}
use Rattle.std.proofs.Math.Seq.{take-length}
use Rattle.std.specs.{Option.is_some, String.string_bytes}
use Rattle.inf_devices.proofs.OpeningLemmas.{source_got, source_taken}
use Rattle.inf_devices.proofs.memory_files.rest_of.Goals as goal

pub unwrap-source-requires : goal.unwrap-source-requires
unwrap-source-requires c =
    let got = source_got c.args.sources.now (string_bytes c.args.opened.now.name) c.as_str.result.now c.requires.whole c.get.result
    c.requires.is_source c.as_str.ensures.value c.get.ensures.value in
    ap is_some got.1

pub slice_bounds-result-count : goal.slice_bounds-result-count
slice_bounds-result-count c =
    let taken = source_taken c.args.sources.now (string_bytes c.args.opened.now.name) c.as_str.result.now c.requires.whole c.get.result
    c.unwrap-source.result c.requires.is_source c.as_str.ensures.value c.get.ensures.value c.unwrap-source.ensures in
    rw (c.deref.ensures.value, taken) c.requires.within

pub slice_bounds-result-start : goal.slice_bounds-result-start
slice_bounds-result-start c =
    let taken = source_taken c.args.sources.now (string_bytes c.args.opened.now.name) c.as_str.result.now c.requires.whole c.get.result
    c.unwrap-source.result c.requires.is_source c.as_str.ensures.value c.get.ensures.value c.unwrap-source.ensures in
    let within : c.args.opened.now.given ≤ length c.deref.result.now = rw (c.deref.ensures.value, taken) c.requires.within in
    search rules

pub returns-clause-rest : goal.returns-clause-rest
returns-clause-rest c =
    let taken = source_taken c.args.sources.now (string_bytes c.args.opened.now.name) c.as_str.result.now c.requires.whole c.get.result
    c.unwrap-source.result c.requires.is_source c.as_str.ensures.value c.get.ensures.value c.unwrap-source.ensures in
    let rest = drop c.args.opened.now.given c.deref.result.now in
    ap (λ n. take n rest) (sym (length-drop c.args.opened.now.given c.deref.result.now)) ∙ take-length rest
    ∙ rw (c.requires.is_source, c.deref.ensures.value, taken) refl

pub returns-clause-fits : goal.returns-clause-fits
returns-clause-fits c =
    let taken = source_taken c.args.sources.now (string_bytes c.args.opened.now.name) c.as_str.result.now c.requires.whole c.get.result
    c.unwrap-source.result c.requires.is_source c.as_str.ensures.value c.get.ensures.value c.unwrap-source.ensures in
    let within : c.args.opened.now.given ≤ length c.deref.result.now = rw (c.deref.ensures.value, taken) c.requires.within in
    simp (length-take, length-drop) (omega arith)
