-- A view in which there is nothing, where the token ends; or a view with bytes in it.
use Rattle.std.proofs.Common.{◌≡◌, ◌⊎◌, ◌<◌, ◌-◌, ℕ, List, [], ◌∷◌, ◌++◌, length, arith, true, false, ◌==◌, IsTrue, refl, sym, ap, ◌∙◌}
use Rattle.std.proofs.lemmas.Bool.Decides.{nat_tests}
use Rattle.inf_characters.specs.declared.characters.CharSet.{CharSet}
use Rattle.inf_devices.specs.declared.files.Files.{Ghosts as Files}
use Rattle.inf_scanner.proofs.Growing.{rest_within, takes_more}
use Rattle.inf_scanner.specs.{Scanning.Found, Scanning.Sight, Scanning.at_end, Scanning.begun, Scanning.find, Scanning.goes_on}
use Rattle.inf_scanner.specs.{Scanning.marked, declared.lines.Lines.Lines, declared.scanner.State.State}
use Rattle.inf_lexer.specs.{Readers.StaysUnfinished, Reading.Fills, Reading.Heard, Unread.View, Unread.to_come, Unread.unread}
use Rattle.inf_lexer.proofs.Unfinished.{stays_open}

pub find_end : (set : CharSet) (limit : ℕ) (s : State) (seen after : Sight) (left rest : List ℕ) → left ≡ [] → rest ≡ []
    → after ≡ marked s seen → record { ending = at_end s; seen = after; rest = left ++ rest } ≡ find set limit s seen (left ++ rest)
find_end set limit s seen after [] rest e none is =
    ap (λ r. record { ending = at_end s; seen = after; rest = r }) none ∙ ap (λ t. record { ending = at_end s; seen = t; rest = [] }) is
    ∙ ap (λ r. find set limit s seen r) (sym none)
find_end set limit s seen after (x ∷ left) rest e none is = cc

zero_is : (n : ℕ) → (n == 0) ≡ true → n ≡ 0
zero_is n e = grind (arith, nat_tests)

pub none_left : (xs : List ℕ) → (length xs == 0) ≡ true → xs ≡ []
none_left [] e = refl
none_left (x ∷ xs) e = absurd (omega (arith, zero_is (length (x ∷ xs)) e))

pub some_left : (xs : List ℕ) → (length xs == 0) ≡ false → 0 < length xs
some_left [] e = cc
some_left (x ∷ xs) e = omega arith

-- Nothing was in view any more, nothing more was given, and the token goes on.
pub token_stays_open : {S : Type 0} {f : Files S} {a b c : S} {u v w : View} (set : CharSet) (limit : ℕ) {lines : Lines} {at : State}
    {seen : Sight} → Heard Found f false a b u v (find set limit at seen) (find set limit State.Gap (begun lines)) → Fills f true b c v w
    → goes_on at ≡ true → (v.left ≡ []) × (v.is_over ≡ false)
    → (w.given ≡ v.given) ⊎ ((v.given ≡ 16777216) × (w.given ≡ 16777217)) → IsTrue (f.is_honest a)
    → StaysUnfinished set limit lines (to_come (f.sources a) (f.openings a) u) (w.given - 16777216) (unread (f.sources a) (f.openings c))
token_stays_open set limit {at = at} {seen = seen} h r opens empty last honest =
    let more = takes_more set limit at seen opens in
    stays_open (λ (x : Found). x.rest) h r empty last (λ behind. rest_within set limit at seen behind) more.more more.takes honest
