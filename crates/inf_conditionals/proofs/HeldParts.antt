-- The parts of a condition that are up to date.
use Rattle.std.proofs.Common.{◌≡◌, ◌∷◌, ◌++◌, [], ℕ, List, Bool, Some, true, refl, sym, ap, subst, ◌∙◌, ◌⊎◌, inl, inr}
use Rattle.inf_machine.specs.{Machine.fits, Machine.taken as read, declared.symbols.Symbol.Symbol}
use Rattle.inf_syntax.specs.declared.actions.Action.{Action}
use Rattle.inf_grammar.specs.Language.{grammar, known}
use Rattle.inf_output.specs.Output.{Out}
use Rattle.inf_unit.specs.{Tokens.SourceToken, Tokens.atom_of, Units.Unit as Spoken}
use Rattle.inf_conditionals.specs.Condition.{Condition, condition_begun, condition_took, verdict_of}
use Rattle.inf_conditionals.specs.{Held.IsHeld, Held.condition_by, Held.has_tokens, Truths.truth_of}
use Rattle.inf_conditionals.specs.{declared.condition.Held.Held}
use Rattle.inf_conditionals.specs.ReadAgain.{IsReadBy, all_fit, all_taken, condition_at}
use Rattle.inf_conditionals.proofs.{Following.truth_is, Waiting.read_by_more, Waiting.taken_more}

-- the tokens are up to date, with the unit or without
pub either_there : (h : Held) → (h ≡ Held.Both) ⊎ (h ≡ Held.Tokens) → has_tokens h ≡ true
either_there h is = elim is [ inl both ↦ ap has_tokens both | inr alone ↦ ap has_tokens alone ]

-- the tokens lead to what the condition is
pub reads_by : (h : Held) (stack : List (Symbol Action)) (u : Spoken) (ts : List SourceToken) → has_tokens h ≡ true → IsHeld h stack u ts →
    IsReadBy ts (condition_by h stack u ts)
reads_by Held.Both stack u ts there held = held
reads_by Held.Tokens stack u ts there held = (held.0, refl)
reads_by Held.Unit stack u ts there held = absurd (cc there)

-- one token more, with the unit
pub both_more : (h : Held) (stack : List (Symbol Action)) (u : Spoken) (ts now : List SourceToken) (t : SourceToken)
    (left : List (Symbol Action)) (met : Spoken) (rest : List (Symbol Action)) (new : Spoken) → has_tokens h ≡ true → IsHeld h stack u ts →
    condition_at left met ≡ condition_by h stack u ts → fits grammar known (atom_of t) left ≡ true →
    condition_at rest new ≡ condition_took t (condition_at left met) → now ≡ ts ++ t ∷ [] → IsReadBy now (condition_at rest new)
both_more h stack u ts now t left met rest new there held is fit took more =
    subst (λ (l : List SourceToken). IsReadBy l (condition_at rest new)) (sym more)
    (read_by_more ts t (condition_at left met) (condition_at rest new)
    (subst (λ (k : Condition). IsReadBy ts k) (sym is) (reads_by h stack u ts there held)) fit took)

-- the rest of what the tokens lead to
pub rest_is : (h : Held) (stack : List (Symbol Action)) (u : Spoken) (ts : List SourceToken) → has_tokens h ≡ true → IsHeld h stack u ts →
    stack ≡ (condition_by h stack u ts).stack
rest_is Held.Both stack u ts there held = refl
rest_is Held.Tokens stack u ts there held = held.1
rest_is Held.Unit stack u ts there held = absurd (cc there)

-- one token more, without the unit
pub tokens_more : (h : Held) (stack : List (Symbol Action)) (u : Spoken) (ts now : List SourceToken) (t : SourceToken)
    (left : List (Symbol Action)) → has_tokens h ≡ true → IsHeld h stack u ts → fits grammar known (atom_of t) stack ≡ true →
    left ≡ (read grammar known (atom_of t) stack).left → now ≡ ts ++ t ∷ [] →
    (all_fit now condition_begun ≡ true) × (left ≡ (all_taken now condition_begun).stack)
tokens_more h stack u ts now t left there held fit is more =
    let k = condition_by h stack u ts in let rest = rest_is h stack u ts there held in
    let reads : IsReadBy now (condition_took t k) = subst (λ (l : List SourceToken). IsReadBy l (condition_took t k)) (sym more)
    (read_by_more ts t k (condition_took t k) (reads_by h stack u ts there held)
    (ap (λ (s : List (Symbol Action)). fits grammar known (atom_of t) s) (sym rest) ∙ fit) refl) in (
      reads.0,
      is ∙ ap (λ (s : List (Symbol Action)). (read grammar known (atom_of t) s).left) rest ∙ ap (λ (x : Condition). x.stack) reads.1,
    )

pub tokens_took : (h : Held) (stack : List (Symbol Action)) (u : Spoken) (ts now : List SourceToken) (t : SourceToken) →
    has_tokens h ≡ true → IsHeld h stack u ts → now ≡ ts ++ t ∷ [] →
    all_taken now condition_begun ≡ condition_took t (condition_by h stack u ts)
tokens_took h stack u ts now t there held more =
    ap (λ (l : List SourceToken). all_taken l condition_begun) more ∙ taken_more ts t condition_begun
    ∙ ap (λ (k : Condition). condition_took t k) (sym (reads_by h stack u ts there held).1)

-- the truth that the tokens tell is that of the condition
pub truth_held : (h : Held) (stack : List (Symbol Action)) (u : Spoken) (ts : List SourceToken) (declared : ℕ) (o : Out) (b : Bool) →
    has_tokens h ≡ true → IsHeld h stack u ts → truth_of declared o ts ≡ Some b →
    b ≡ (verdict_of declared o (condition_by h stack u ts)).is_true
truth_held h stack u ts declared o b there held found = truth_is declared o ts b found
    ∙ ap (λ (k : Condition). (verdict_of declared o k).is_true) (sym (reads_by h stack u ts there held).1)
