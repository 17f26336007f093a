-- The lines of a verb behind an `Extend`
use Rattle.std.proofs.Common.{◌≡◌, List, [], ◌∷◌, ◌++◌, refl, ◌∙◌, ap, sym, append_assoc, append-nil, fold}
use Rattle.inf_verbs.specs.{Lines.LineOf, declared.verbs.LinePlace.LinePlace}
use Rattle.inf_verbs.specs.Verbs.{VerbOf, begun_first, lines_of, no_lines, with_first, with_last}
use Rattle.inf_verb_laws.specs.Laws.{ExtendAgrees}

firsts : (new : List LineOf) (v : VerbOf) → lines_of (fold (λ v l. with_first l v) v new) ≡ v.first ++ (new ++ v.rest)
firsts [] v = refl
firsts (l ∷ new) v = firsts new (with_first l v) ∙ append_assoc v.first (l ∷ []) (new ++ v.rest)

lasts : (new : List LineOf) (v : VerbOf) → lines_of (fold (λ v l. with_last l v) v new) ≡ lines_of v ++ new
lasts [] v = sym (append-nil (lines_of v))
lasts (l ∷ new) v = lasts new (with_last l v) ∙ ap (λ x. x ++ new) (sym (append_assoc v.first v.rest (l ∷ [])))
    ∙ append_assoc (v.first ++ v.rest) (l ∷ []) new

pub extend_agrees : ExtendAgrees
extend_agrees LinePlace.First new v = firsts new (begun_first v)
extend_agrees LinePlace.Last new v = lasts new v
extend_agrees LinePlace.Replace new v = lasts new no_lines
