use Rattle.std.proofs.Common.{◌≡◌, List, ◌++◌, [], ◌∷◌, map, refl, sym, ap, subst, ◌∙◌}
use Rattle.std.proofs.lemmas.List.{with_items_is}
use Rattle.std.specs.Vec.{with_items}
use Rattle.inf_lexer.specs.{Names.Nest, Readers.Reader}
use Rattle.inf_sources.specs.{Calls.given_each, Choosing.file_with, Choosing.open_with, declared.open_file.OpenFile.OpenFile}
use Rattle.inf_sources.specs.Open.{AllGiven, AllWait, IsNested, Open, files_of, lexers_of, nesting}
use Rattle.inf_sources.proofs.Choosing.{all_given_with, all_wait_with, given_each_with, is_nested_with, nesting_is_with, numbers_with}
use Rattle.inf_sources.proofs.open_files.OpenFiles.set_characters.Goals as goal

pub invariant_of-self : goal.invariant_of-self
invariant_of-self c =
    let inv = c.self.invariant in let inside = c.self.inside in let set = c.args.set in
    let outer = with_items_is inside.outer c.set_all.new.files (c.set_all.auto.files ∙ c.as_mut_slice.ensures.len)
    ∙ (c.set_all.ensures ∙ ap (map (file_with set)) c.as_mut_slice.ensures.value) in
    let names = c.set_characters.ensures in let lexer = c.set_characters-2.ensures in
    let Fits : Nest → Reader → List OpenFile → Type 0 = λ n r files. (n.open_files ≡ files_of (lexers_of files) ++ r.file ∷ [])
    × ((r.set ≡ n.set) × ((r.limit ≡ n.limit) × AllWait n.set n.limit (lexers_of files))) in
    subst (λ (n : Nest). Fits n c.set_characters-2.new.self (with_items inside.outer c.set_all.new.files).items) (sym names)
    (subst (λ (r : Reader). Fits (record inside.names { set = set }) r (with_items inside.outer c.set_all.new.files).items) (sym lexer)
    (subst (λ files. Fits (record inside.names { set = set }) (record inside.lexer { set = set }) files) (sym outer) (
      inv.0 ∙ ap (λ fs. fs ++ inside.lexer.file ∷ []) (sym (numbers_with set inside.outer.items)),
      (refl, (inv.1.1.0, all_wait_with inside.names.set set inside.names.limit inside.outer.items inv.1.1.1)),
    )))

-- the open files after the call
abbrev after : goal.After-self-1 → Open
after c = record {
  nest = c.set_characters.new.self;
  lexer = c.set_characters-2.new.self;
  outer = (with_items c.self.inside.outer c.set_all.new.files).items;
}

after_is : (c : goal.After-self-1) → after c ≡ open_with c.args.set c.args.self.now
after_is c =
    let inside = c.self.inside in let set = c.args.set in
    let outer = with_items_is inside.outer c.set_all.new.files (c.set_all.auto.files ∙ c.as_mut_slice.ensures.len)
    ∙ (c.set_all.ensures ∙ ap (map (file_with set)) c.as_mut_slice.ensures.value) in
    let written = (with_items inside.outer c.set_all.new.files).items in
    ap (λ (n : Nest). record { nest = n; lexer = c.set_characters-2.new.self; outer = written }) c.set_characters.ensures
    ∙ (ap (λ (r : Reader). record { nest = record inside.names { set = set }; lexer = r; outer = written }) c.set_characters-2.ensures
    ∙ (ap (λ (fs : List OpenFile). record {
      nest = record inside.names { set = set };
      lexer = record inside.lexer { set = set };
      outer = fs;
    }) outer ∙ ap (λ (o : Open). open_with set o) c.self.view_is))

pub returns-clause-nesting : goal.returns-clause-nesting
returns-clause-nesting c = λ sources start now.
    ap (λ (o : Open). nesting sources start now o) (after_is c) ∙ nesting_is_with c.args.set sources start now c.args.self.now

pub returns-clause-nested : goal.returns-clause-nested
returns-clause-nested c = λ start now nested.
    subst (λ (o : Open). IsNested start now o) (sym (after_is c)) (is_nested_with c.args.set start now c.args.self.now nested)

pub returns-clause-given_all : goal.returns-clause-given_all
returns-clause-given_all c = λ sources n now all.
    subst (λ (o : Open). AllGiven sources n now o) (sym (after_is c)) (all_given_with c.args.set sources n now c.args.self.now all)

pub returns-clause-given : goal.returns-clause-given
returns-clause-given c = ap given_each (after_is c) ∙ given_each_with c.args.set c.args.self.now
