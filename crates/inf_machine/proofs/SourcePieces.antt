-- Every source has its pieces.
use Rattle.std.proofs.{lemmas.Bool.and_parts, lemmas.Bool.both_ways, lemmas.Bool.cond-false, lemmas.Bool.cond-true, lemmas.List.length-drop}
use Rattle.std.proofs.Common.{◌≡◌, ℕ, zero, suc, ◌≤◌, List, [], ◌∷◌, ◌++◌, Bool, true, false, ◌&&◌, Option, Some, None, is_some, length}
use Rattle.std.proofs.Common.{take, drop, refl, sym, ◌∙◌, ap, subst, arith, append_assoc, append-nil, if◌then◌else◌, inl, inr, ◌⊎◌}
use Rattle.inf_machine.specs.{Laws.IsDecided, declared.symbols.Symbol.Symbol}
use Rattle.inf_machine.specs.Grammar.{Grammar, Row, IsOneOf, first, later, Begins, Event}
use Rattle.inf_machine.specs.Machine.{Known, fits, can_end, chosen, stepped, work, taken, events_of, read, Read, behind}
use Rattle.inf_machine.specs.Pieces.{Piece, Whole, Bad, Cut, IsPiece, IsOpen, ArePieces, ended, whole, bad, cut, last_symbol, all_rows}
use Rattle.inf_machine.specs.Pieces.{closes, SourcesArePieces}
use Rattle.inf_machine.proofs.{Deciding.decided_parts, Ending.sources_end, Rows.some_is_empty, TokenLaws.bad_tokens_begin_nothing}
use Rattle.inf_machine.proofs.Taking.{choice, chosen_fits}

and_false : (b : Bool) → (b && false) ≡ false
and_false true = refl
and_false false = refl

module _ {A : Type 0} where
  -- Lemmas about symbols that end with a token

  abbrev pub Closed : Grammar A → List (Symbol A) → Type 0
  Closed g symbols = (n : ℕ) × (closes g (last_symbol symbols) n ≡ true)

  each_row : (test : List (Symbol A) → Bool) (rows : List (Row A)) (r : Row A) → IsOneOf r rows → all_rows test rows ≡ true →
      test r.parts ≡ true
  each_row test [] r m e = elim m [ ]
  each_row test (r ∷ rows) r' first e = (and_parts (test r.parts) (all_rows test rows) e).0
  each_row test (y ∷ rows) r (later m) e = each_row test rows r m (and_parts (test y.parts) (all_rows test rows) e).1

  last_append : (xs : List (Symbol A)) (y : Symbol A) (ys : List (Symbol A)) → last_symbol (xs ++ y ∷ ys) ≡ last_symbol (y ∷ ys)
  last_append [] y ys = refl
  last_append (x ∷ []) y ys = refl
  last_append (x ∷ z ∷ xs) y ys = last_append (z ∷ xs) y ys

  closed_row : (g : Grammar A) (rule : ℕ) (r : Row A) (symbols : List (Symbol A)) → IsOneOf r (g.rows_of rule) →
      Closed g (Symbol.Rule rule ∷ symbols) → Closed g (r.parts ++ symbols)
  closed_row g rule r [] m (zero, c) = cc
  closed_row g rule r [] m (suc n, c) = (
    n,
    subst (λ parts. closes g (last_symbol parts) n ≡ true) (sym (append-nil r.parts))
        (each_row (λ parts. closes g (last_symbol parts) n) (g.rows_of rule) r m c),
  )
  closed_row g rule r (s ∷ symbols) m (n, c) = (n, subst (λ l. closes g l n ≡ true) (sym (last_append r.parts s symbols)) c)

  not_ended : (g : Grammar A) (k : Known) (n : ℕ) → ((rule : ℕ) → closes g (Some (Symbol.Rule rule)) n ≡ true → k.is_empty rule ≡ false) →
      (symbols : List (Symbol A)) → closes g (last_symbol symbols) n ≡ true → can_end k symbols ≡ false
  not_ended g k n h [] c = cc
  not_ended g k n h (Symbol.Token class ∷ symbols) c = refl
  not_ended g k n h (Symbol.Act a ∷ []) c = cc
  not_ended g k n h (Symbol.Act a ∷ s ∷ symbols) c = not_ended g k n h (s ∷ symbols) c
  not_ended g k n h (Symbol.Rule rule ∷ []) c = ap (λ b. b && true) (h rule c)
  not_ended g k n h (Symbol.Rule rule ∷ s ∷ symbols) c =
      ap (λ b. k.is_empty rule && b) (not_ended g k n h (s ∷ symbols) c) ∙ and_false (k.is_empty rule)

  rule_not_empty : (g : Grammar A) (k : Known) → IsDecided g k → (n rule : ℕ) → closes g (Some (Symbol.Rule rule)) n ≡ true →
      k.is_empty rule ≡ false
  rule_not_empty g k d zero rule c = cc
  rule_not_empty g k d (suc n) rule c = by_empty (λ r e. rule_not_empty g k d n r e) (k.is_empty rule) refl where
    by_empty : ((r : ℕ) → closes g (Some (Symbol.Rule r)) n ≡ true → k.is_empty r ≡ false) → (b : Bool) → k.is_empty rule ≡ b →
        k.is_empty rule ≡ false
    by_empty h false e = e
    by_empty h true e =
        let of_rule = decided_parts g k rule (d rule) in
        let r = some_is_empty k (g.rows_of rule) (omega (arith, of_rule.empties, cond-true {A = ℕ} (k.is_empty rule) 1 0 e)) in
        absurd (both_ways (can_end k r.row.parts)
        (not_ended g k n h r.row.parts (each_row (λ parts. closes g (last_symbol parts) n) (g.rows_of rule) r.row r.one c)) r.ends)

  closed_is_open : (g : Grammar A) (k : Known) → IsDecided g k → (symbols : List (Symbol A)) → Closed g symbols → can_end k symbols ≡ false
  closed_is_open g k d symbols c = not_ended g k c.0 (rule_not_empty g k d c.0) symbols c.1

  -- the symbols that are left behind a token end with a token too, or there are none
  closed_left : (g : Grammar A) (k : Known) → IsDecided g k → (atom n : ℕ) (symbols : List (Symbol A)) → fits g k atom symbols ≡ true →
      Closed g symbols → ((stepped g k atom n symbols).left ≡ []) ⊎ Closed g (stepped g k atom n symbols).left
  closed_left g k d atom zero symbols f c = inr c
  closed_left g k d atom (suc n) [] f c = inl refl
  closed_left g k d atom (suc n) (Symbol.Token class ∷ []) f c = inl refl
  closed_left g k d atom (suc n) (Symbol.Token class ∷ s ∷ symbols) f c = inr c
  closed_left g k d atom (suc n) (Symbol.Act a ∷ []) f c = cc
  closed_left g k d atom (suc n) (Symbol.Act a ∷ s ∷ symbols) f c = closed_left g k d atom n (s ∷ symbols) f c
  closed_left g k d atom (suc n) (Symbol.Rule rule ∷ symbols) f c =
      let o = choice g k d atom rule symbols f in
      closed_left g k d atom n (chosen g k atom rule ++ symbols) (chosen_fits g k d atom rule symbols f)
      (subst (λ parts. Closed g (parts ++ symbols)) (sym o.is) (closed_row g rule o.row symbols o.one c))

  -- Lemmas about reading one more token

  pub record OneMore (g : Grammar A) (k : Known) (symbols : List (Symbol A)) (atoms : List ℕ) (atom : ℕ) (left : List (Symbol A)) : Type 0
    where
      pub r : Read A
      pub are : read g k symbols (atoms ++ atom ∷ []) ≡ Some r
      pub same : r.left ≡ left

  one_more : (g : Grammar A) (k : Known) (atoms : List ℕ) (atom : ℕ) (symbols : List (Symbol A)) (r : Read A) →
      read g k symbols atoms ≡ Some r → fits g k atom r.left ≡ true → OneMore g k symbols atoms atom (taken g k atom r.left).left
  one_more g k [] atom symbols r e f =
      let same : record { events = []; left = symbols } ≡ r = cc in
      subst (λ q. fits g k atom q.left ≡ true → OneMore g k symbols [] atom (taken g k atom q.left).left) same (λ h. record {
        r = record { events = events_of (taken g k atom symbols).actions atom ++ []; left = (taken g k atom symbols).left };
        are = cond-true (fits g k atom symbols) (behind (events_of (taken g k atom symbols).actions atom)
            (read g k (taken g k atom symbols).left [])) None h;
        same = refl;
      }) f
  one_more g k (x ∷ atoms) atom symbols r e f =
      by_fit (λ q h i. one_more g k atoms atom (taken g k x symbols).left q h i) (fits g k x symbols) refl
      (read g k (taken g k x symbols).left atoms) refl e
    where
      es : List (Event A)
      es = events_of (taken g k x symbols).actions x

      by_fit : ((q : Read A) → read g k (taken g k x symbols).left atoms ≡ Some q → fits g k atom q.left ≡ true → OneMore g k
          (taken g k x symbols).left atoms atom (taken g k atom q.left).left) → (b : Bool) → fits g k x symbols ≡ b → (o : Option (Read A))
          → read g k (taken g k x symbols).left atoms ≡ o → (if b then behind es o else None) ≡ Some r → OneMore g k symbols (x ∷ atoms)
          atom (taken g k atom r.left).left
      by_fit on false h o i q = cc
      by_fit on true h None i q = cc
      by_fit on true h (Some p) i q =
          let same : p.left ≡ r.left = ap_left (cc) in let m = on p i (ap (fits g k atom) same ∙ f) in
          record {
            r = record { events = es ++ m.r.events; left = m.r.left };
            are = cond-true (fits g k x symbols) (behind es (read g k (taken g k x symbols).left (atoms ++ atom ∷ []))) None h
                ∙ ap (behind es) m.are;
            same = m.same ∙ ap (λ s. (taken g k atom s).left) same;
          }
        where
          ap_left : record { events = es ++ p.events; left = p.left } ≡ r → p.left ≡ r.left
          ap_left e = ap (λ t. t.left) e

  no_more : (g : Grammar A) (k : Known) (atoms : List ℕ) (atom : ℕ) (symbols : List (Symbol A)) (r : Read A) →
      read g k symbols atoms ≡ Some r → fits g k atom r.left ≡ false → read g k symbols (atoms ++ atom ∷ []) ≡ None
  no_more g k [] atom symbols r e f =
      let same : record { events = []; left = symbols } ≡ r = cc in
      cond-false (fits g k atom symbols) (behind (events_of (taken g k atom symbols).actions atom)
      (read g k (taken g k atom symbols).left [])) None (ap (λ q. fits g k atom q.left) same ∙ f)
  no_more g k (x ∷ atoms) atom symbols r e f =
      by_fit (λ q h i. no_more g k atoms atom (taken g k x symbols).left q h i) (fits g k x symbols) refl
      (read g k (taken g k x symbols).left atoms) refl e
    where
      es : List (Event A)
      es = events_of (taken g k x symbols).actions x

      by_fit : ((q : Read A) → read g k (taken g k x symbols).left atoms ≡ Some q → fits g k atom q.left ≡ false → read g k
          (taken g k x symbols).left (atoms ++ atom ∷ []) ≡ None) → (b : Bool) → fits g k x symbols ≡ b → (o : Option (Read A)) → read g k
          (taken g k x symbols).left atoms ≡ o → (if b then behind es o else None) ≡ Some r → read g k symbols (x ∷ atoms ++ atom ∷ []) ≡
          None
      by_fit on false h o i q = cc
      by_fit on true h None i q = cc
      by_fit on true h (Some p) i q =
          let same : record { events = es ++ p.events; left = p.left } ≡ r = cc in
          cond-true (fits g k x symbols) (behind es (read g k (taken g k x symbols).left (atoms ++ atom ∷ []))) None h
          ∙ ap (behind es) (on p i (ap (λ t. fits g k atom t.left) same ∙ f))

  -- Proof of the law

  pub sources_are_pieces : SourcesArePieces A
  sources_are_pieces g k rule deep further atoms d c =
      go (length atoms) [] atoms (record { events = []; left = Symbol.Rule rule ∷ [] }) (omega arith) refl (deep, c)
    where
      is_open : (front : List ℕ) (r : Read A) → read g k (Symbol.Rule rule ∷ []) front ≡ Some r → Closed g r.left → IsOpen g rule front
      is_open front r e o = (
        (bad_tokens_begin_nothing g k rule front d).0 (ap is_some e),
        λ t. let a = (sources_end g k rule front d).0 t in no_end a.0 a.1 a.2,
      ) where
        no_end : (q : Read A) → read g k (Symbol.Rule rule ∷ []) front ≡ Some q → can_end k q.left ≡ true → ⊥
        no_end q i h =
            let same : r ≡ q = some_same (sym e ∙ i) in
            both_ways (can_end k q.left) (subst (λ t. can_end k t.left ≡ false) same (closed_is_open g k d r.left o)) h
          where
            some_same : Some r ≡ Some q → r ≡ q
            some_same j = cc

      go : (n : ℕ) (front rest : List ℕ) (r : Read A) → length rest ≤ n → read g k (Symbol.Rule rule ∷ []) front ≡ Some r →
          Closed g r.left → (pieces : List Piece) × ArePieces g rule further pieces (front ++ rest)
      go n [] [] r l e o = ([], ended)
      go n (x ∷ front) [] r l e o = (
        Cut (x ∷ front) ∷ [],
        subst (λ xs. ArePieces g rule further (Cut (x ∷ front) ∷ []) xs) (sym (append-nil (x ∷ front))) (cut (is_open (x ∷ front) r e o)),
      )
      go zero front (a ∷ rest) r l e o = absurd (omega arith)
      go (suc n) front (a ∷ rest) r l e o = by_fit (λ f q s i j m. go n f q s i j m) (fits g k a r.left) refl where
        by_fit : ((f q : List ℕ) (s : Read A) → length q ≤ n → read g k (Symbol.Rule rule ∷ []) f ≡ Some s → Closed g s.left →
            (pieces : List Piece) × ArePieces g rule further pieces (f ++ q)) → (b : Bool) → fits g k a r.left ≡ b → (pieces : List Piece)
            × ArePieces g rule further pieces (front ++ a ∷ rest)
        by_fit on false f =
            let on_from = on [] (drop (further front a rest) rest) (record { events = []; left = Symbol.Rule rule ∷ [] })
            (omega (arith, l, length-drop (further front a rest) rest)) refl (deep, c) in
            let none : Begins g (Symbol.Rule rule ∷ []) (front ++ a ∷ []) → ⊥ =
            λ h. both_ways (is_some (read g k (Symbol.Rule rule ∷ []) (front ++ a ∷ [])))
            (ap is_some (no_more g k front a (Symbol.Rule rule ∷ []) r e f))
            ((bad_tokens_begin_nothing g k rule (front ++ a ∷ []) d).1 h) in
            (Bad front a (take (further front a rest) rest) ∷ on_from.0, bad front a rest (is_open front r e o) none on_from.1)
        by_fit on true f = by_left (one_more g k front a (Symbol.Rule rule ∷ []) r e f) (closed_left g k d a (work k a r.left) r.left f o)
          where
            by_left : OneMore g k (Symbol.Rule rule ∷ []) front a (taken g k a r.left).left →
                (((taken g k a r.left).left ≡ []) ⊎ Closed g (taken g k a r.left).left) →
                (pieces : List Piece) × ArePieces g rule further pieces (front ++ a ∷ rest)
            by_left m (inl h) =
                let on_from = on [] rest (record { events = []; left = Symbol.Rule rule ∷ [] }) (omega arith) refl (deep, c) in
                let text : IsPiece g rule (front ++ a ∷ []) =
                (sources_end g k rule (front ++ a ∷ []) d).1 (m.r, m.are, ap (can_end k) (m.same ∙ h)) in
                (Whole (front ++ a ∷ []) ∷ on_from.0, whole front a rest (is_open front r e o) text on_from.1)
            by_left m (inr h) =
                let on_from = on (front ++ a ∷ []) rest m.r (omega arith) m.are (subst (Closed g) (sym m.same) h) in
                (on_from.0, subst (λ xs. ArePieces g rule further on_from.0 xs) (append_assoc front (a ∷ []) rest) on_from.1)
