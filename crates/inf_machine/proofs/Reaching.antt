-- Walking down a stack to a token: the symbols that are passed over on the way are left out, and their actions come first.
use Rattle.std.proofs.{Math.Seq.take-suc, lemmas.Bool.or_left, lemmas.List.append-nil, lemmas.List.append_assoc, lemmas.List.reverse-append}
use Rattle.std.proofs.Common.{◌≡◌, ℕ, zero, suc, ◌-◌, ◌<◌, ◌≤◌, List, [], ◌∷◌, ◌++◌, Bool, true, false, ◌&&◌, ◌||◌, refl, sym, ◌∙◌, ap}
use Rattle.std.proofs.Common.{arith, reverse, take, length, get_or}
use Rattle.inf_machine.specs.{Grammar.Grammar, Grammar.has, Laws.IsDecided, declared.symbols.Symbol.Symbol}
use Rattle.inf_machine.specs.Machine.{Known, Taken, fits, taken, opened, are_acts, acts_of, passed_row}
use Rattle.inf_machine.proofs.{Opened.before, Opened.opened_on, Ways.way_on, Ways.way_past}

module _ {A : Type 0} where
  -- Lemmas about actions at the top of a stack

  pub acts_fit : (g : Grammar A) (k : Known) (atom : ℕ) (acts rest : List (Symbol A)) → are_acts acts ≡ true →
      fits g k atom (acts ++ rest) ≡ fits g k atom rest
  acts_fit g k atom [] rest e = refl
  acts_fit g k atom (Symbol.Token class ∷ acts) rest e = cc
  acts_fit g k atom (Symbol.Rule rule ∷ acts) rest e = cc
  acts_fit g k atom (Symbol.Act a ∷ acts) rest e = acts_fit g k atom acts rest e

  abbrev pub behind_all : List A → Taken A → Taken A
  behind_all actions t = record { actions = actions ++ t.actions; left = t.left }

  pub acts_taken : (g : Grammar A) (k : Known) (atom : ℕ) (acts rest : List (Symbol A)) → are_acts acts ≡ true →
      taken g k atom (acts ++ rest) ≡ behind_all (acts_of acts) (taken g k atom rest)
  acts_taken g k atom [] rest e = refl
  acts_taken g k atom (Symbol.Token class ∷ acts) rest e = cc
  acts_taken g k atom (Symbol.Rule rule ∷ acts) rest e = cc
  acts_taken g k atom (Symbol.Act a ∷ acts) rest e = ap (behind_all (a ∷ [])) (acts_taken g k atom acts rest e)

  -- Lemmas about the walk

  -- the walk at the symbols `here`: the token taken from here on, behind the actions `now`, gives the result of taking it from the start
  pub record IsOn (g : Grammar A) (k : Known) (atom : ℕ) (all here : List (Symbol A)) (first now : List A) : Type 0 where
    pub same : fits g k atom here ≡ fits g k atom all
    pub actions : fits g k atom all ≡ true → now ++ (taken g k atom here).actions ≡ first ++ (taken g k atom all).actions
    pub left : fits g k atom all ≡ true → (taken g k atom here).left ≡ (taken g k atom all).left

  pub on_start : (g : Grammar A) (k : Known) (atom : ℕ) (all : List (Symbol A)) (first : List A) → IsOn g k atom all all first first
  on_start g k atom all first = record { same = refl; actions = λ f. refl; left = λ f. refl }

  -- the walk goes on past an action
  pub on_act : (g : Grammar A) (k : Known) (atom : ℕ) (a : A) (all here rest : List (Symbol A)) (first now : List A) →
      here ≡ Symbol.Act a ∷ rest → IsOn g k atom all here first now → IsOn g k atom all rest first (now ++ (a ∷ []))
  on_act g k atom a all here rest first now e on =
      let t = taken g k atom rest in
      record {
        same = ap (fits g k atom) (sym e) ∙ on.same;
        actions = λ f. append_assoc now (a ∷ []) t.actions ∙ ap (λ s. now ++ (taken g k atom s).actions) (sym e) ∙ on.actions f;
        left = λ f. ap (λ s. (taken g k atom s).left) (sym e) ∙ on.left f;
      }

  -- the walk goes on past a rule that can be empty
  pub on_passed : (g : Grammar A) (k : Known) → IsDecided g k → (atom rule : ℕ) (all here rest : List (Symbol A)) (first now : List A) →
      here ≡ Symbol.Rule rule ∷ rest → has (k.begins rule) atom ≡ false → k.is_empty rule ≡ true →
      are_acts (passed_row g k (g.rows_of rule)) ≡ true → IsOn g k atom all here first now →
      IsOn g k atom all rest first (now ++ acts_of (passed_row g k (g.rows_of rule)))
  on_passed g k d atom rule all here rest first now e not_it empty acts on =
      let row = passed_row g k (g.rows_of rule) in
      record {
        same = fits_rest ∙ on.same;
        actions =
            λ f. append_assoc now (acts_of row) (taken g k atom rest).actions ∙ ap (λ t. now ++ t.actions) (same_taken f) ∙ on.actions f;
        left = λ f. ap (λ t. t.left) (same_taken f) ∙ on.left f;
      }
    where
      here_is : (b m f : Bool) → b ≡ false → m ≡ true → f ≡ (b || (m && f))
      here_is true m f e n = cc
      here_is false false f e n = cc
      here_is false true f e n = refl

      fits_rest : fits g k atom rest ≡ fits g k atom here
      fits_rest = here_is (has (k.begins rule) atom) (k.is_empty rule) (fits g k atom rest) not_it empty ∙ ap (fits g k atom) (sym e)

      same_taken : fits g k atom all ≡ true →
          behind_all (acts_of (passed_row g k (g.rows_of rule))) (taken g k atom rest) ≡ taken g k atom here
      same_taken f =
          let row = passed_row g k (g.rows_of rule) in
          let fits_it : fits g k atom (Symbol.Rule rule ∷ rest) ≡ true = ap (fits g k atom) (sym e) ∙ on.same ∙ f in
          sym (acts_taken g k atom row rest acts) ∙ ap (λ parts. taken g k atom (parts ++ rest)) (way_past g k d atom rule not_it)
          ∙ sym (way_on g k d atom rule rest fits_it).same ∙ ap (taken g k atom) (sym e)

  -- Lemmas about the end of the walk

  pub record Ends (g : Grammar A) (k : Known) (atom : ℕ) (all left : List (Symbol A)) (first now : List A) : Type 0 where
    pub fits_it : true ≡ fits g k atom all
    pub left_is : left ≡ (taken g k atom all).left
    pub actions : now ≡ first ++ (taken g k atom all).actions

  -- a token at hand decides whether the atom fits
  pub token_fits : (g : Grammar A) (k : Known) (atom class : ℕ) (all here rest : List (Symbol A)) (first now : List A) →
      here ≡ Symbol.Token class ∷ rest → IsOn g k atom all here first now → has (g.atoms_of class) atom ≡ fits g k atom all
  token_fits g k atom class all here rest first now e on = ap (fits g k atom) (sym e) ∙ on.same

  -- the walk ends at a token that fits
  pub at_token : (g : Grammar A) (k : Known) (atom class : ℕ) (all here rest : List (Symbol A)) (first now : List A) →
      here ≡ Symbol.Token class ∷ rest → IsOn g k atom all here first now → has (g.atoms_of class) atom ≡ true → Ends g k atom all
      rest first now
  at_token g k atom class all here rest first now e on h =
      let whole = token_fits g k atom class all here rest first now e on in
      let f : fits g k atom all ≡ true = sym whole ∙ h in
      record {
        fits_it = sym f;
        left_is = ap (λ s. (taken g k atom s).left) (sym e) ∙ on.left f;
        actions = sym (append-nil now) ∙ ap (λ s. now ++ (taken g k atom s).actions) (sym e) ∙ on.actions f;
      }

  -- the walk ends at a rule that the atom begins
  pub at_rule : (g : Grammar A) (k : Known) → IsDecided g k → (atom rule : ℕ) (all here rest : List (Symbol A)) (first now : List A) →
      here ≡ Symbol.Rule rule ∷ rest → has (k.begins rule) atom ≡ true → IsOn g k atom all here first now →
      Ends g k atom all ((opened g k rule atom).left ++ rest) first (now ++ (opened g k rule atom).actions)
  at_rule g k d atom rule all here rest first now e h on =
      let whole : fits g k atom all ≡ true =
      sym on.same ∙ ap (fits g k atom) e ∙ or_left (has (k.begins rule) atom) (k.is_empty rule && fits g k atom rest) h in
      let same : before (opened g k rule atom) rest ≡ taken g k atom here =
      sym (opened_on g k d atom rule rest h) ∙ ap (taken g k atom) (sym e) in
      record {
        fits_it = sym whole;
        left_is = ap (λ t. t.left) same ∙ on.left whole;
        actions = ap (λ t. now ++ t.actions) same ∙ on.actions whole;
      }

  -- the atom does not fit at a rule that it does not begin and that cannot be empty
  pub at_other : (g : Grammar A) (k : Known) (atom rule : ℕ) (all here rest : List (Symbol A)) (first now : List A) →
      here ≡ Symbol.Rule rule ∷ rest → has (k.begins rule) atom ≡ false → k.is_empty rule ≡ false → IsOn g k atom all here first now →
      false ≡ fits g k atom all
  at_other g k atom rule all here rest first now e not_it some on =
      neither (has (k.begins rule) atom) (k.is_empty rule) (fits g k atom rest) not_it some ∙ ap (fits g k atom) (sym e) ∙ on.same
    where
      neither : (b m f : Bool) → b ≡ false → m ≡ false → false ≡ (b || (m && f))
      neither true m f e n = cc
      neither false true f e n = cc
      neither false false f e n = refl

-- the top of a stack that is stored with its top last
pub top_is : {X : Type 0} (xs : List X) (below : ℕ) (x : X) → 0 < below → below ≤ length xs → x ≡ get_or xs (below - 1) x →
    reverse (take below xs) ≡ x ∷ reverse (take (below - 1) xs)
top_is xs zero x p l e = absurd (omega arith)
top_is xs (suc n) x p l e =
    let down : suc n - 1 ≡ n = omega arith in
    ap reverse (take-suc xs n x (omega arith) ∙ ap (λ y. take n xs ++ (y ∷ [])) (ap (λ m. get_or xs m x) (sym down) ∙ sym e))
    ∙ reverse-append (take n xs) (x ∷ []) ∙ ap (λ m. x ∷ reverse (take m xs)) (sym down)

-- the front of a list stays as it is where more is appended
pub take_on : {X : Type 0} (first now more : List X) → take (length first) now ≡ first → take (length first) (now ++ more) ≡ first
take_on [] now more e = refl
take_on (x ∷ first) [] more e = cc
take_on (x ∷ first) (y ∷ now) more e = let rest = take_on first now more (cc) in cc
