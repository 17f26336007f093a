-- The front of a list, and calls, of whose arguments seven are given.
use Rattle.std.proofs.{Math.Seq.take-append_seam, lemmas.List.take_all}
use Rattle.std.proofs.Common.{◌≡◌, ℕ, zero, suc, ◌≤◌, List, [], ◌∷◌, ◌++◌, Option, None, length, take, ap, sym, ◌∙◌, refl}
use Rattle.inf_settings.specs.Bounds.{Limits}
use Rattle.inf_output.specs.{declared.operands.Simple.Simple, declared.veneer.Veneer.Veneer}
use Rattle.inf_output.specs.Output.{Out, instruction, routine, used}
use Rattle.inf_templates.specs.Parts.{call_opcode, calling, calling_routine}

-- the operands that were found are the front of all
pub front : (n : ℕ) (found rest all : List Simple) → found ++ rest ≡ all → length found ≡ n → found ≡ take n all
front n found rest all is len = sym (take-append_seam found rest) ∙ ap (λ m. take m (found ++ rest)) len ∙ ap (take n) is

-- the operands that were found are all where the last one was added
pub whole : (n : ℕ) (found new rest all : List Simple) (x : Simple) → found ++ rest ≡ all → rest ≡ x ∷ [] → new ≡ found ++ x ∷ [] →
    length new ≤ n → new ≡ take n all
whole n found new rest all x is last new_is len =
    let same : new ≡ all = new_is ∙ ap (λ r. found ++ r) (sym last) ∙ is in
    sym (take_all n new len) ∙ ap (take n) same

-- the front of a front is that front
taken_twice : (n : ℕ) (all : List Simple) → take n (take n all) ≡ take n all
taken_twice zero all = refl
taken_twice (suc n) [] = refl
taken_twice (suc n) (x ∷ all) = ap (λ xs. x ∷ xs) (taken_twice n all)

front_twice : (given all : List Simple) → given ≡ take 7 all → take 7 given ≡ take 7 all
front_twice given all is = ap (take 7) is ∙ taken_twice 7 all

pub calling_given : (limits : Limits) (f : Simple) (given all : List Simple) (store : Option ℕ) (o : Out) → given ≡ take 7 all →
    calling limits f given store o ≡ calling limits f all store o
unfolding calling
calling_given limits f given all store o is =
    ap (λ gs. instruction limits (call_opcode store (length gs)) (f ∷ gs) store None o) (front_twice given all is)

pub calling_routine_given : (limits : Limits) (v : Veneer) (given all : List Simple) (store : Option ℕ) (o : Out) → given ≡ take 7 all →
    calling_routine limits v given store o ≡ calling_routine limits v all store o
unfolding calling_routine
calling_routine_given limits v given all store o is = calling_given limits (routine limits v o) given all store (used limits v o) is
