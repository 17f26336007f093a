use Rattle.std.proofs.{lemmas.List.Edits.map_over_more, lemmas.List.drop_all, lemmas.List.take_all}
use Rattle.std.proofs.Common.{rules, get_or, slice_index_or, slice_set, ap, ◌∙◌}
use Rattle.inf_lexer.specs.Readers.{Reader}
use Rattle.inf_sources.specs.{Choosing.file_with, declared.open_file.OpenFile.OpenFile}
use Rattle.inf_sources.proofs.open_files.set_all.Goals as goal

pub loop-at-preserved : goal.loop-at-preserved
loop-at-preserved c =
    let files = c.loop-at.files in let i = c.loop-at.at in let x = c.index-files-at.result in
    let y = slice_index_or files i x in
    ap (λ (r : Reader). slice_set files i (record { lexer = r; conditionals = y.conditionals; is_system = y.is_system }))
    c.set_characters.ensures ∙ map_over_more (file_with c.args.set) c.args.files.now files i y c.loop-at-test.true c.loop-at.invariant
    (ap (λ (f : OpenFile). get_or files i f) c.index-files-at.is)

pub returns : goal.returns
returns c = search (rules, take_all, drop_all)
