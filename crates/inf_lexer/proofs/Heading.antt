-- The end of a head, and the bytes that it takes.
use Rattle.std.proofs.Common.{◌≡◌, ℕ, ◌-◌, ◌≤◌, ◌<◌, ◌⊎◌, ◌||◌, ◌==◌, List, [], ◌∷◌, ◌++◌, length, Bool, true, false, cond, IsTrue}
use Rattle.std.proofs.Common.{refl, sym, ap, subst, ◌∙◌, arith, append_assoc, length-append}
use Rattle.inf_devices.specs.declared.files.Files.{Ghosts as Files}
use Rattle.inf_characters.specs.Characters.{is_line_end}
use Rattle.inf_scanner.specs.{Lines.past, declared.lines.Lines.Lines}
use Rattle.inf_lexer.specs.{Readers.StaysOpen, Readers.TookWord, declared.head.HeadPlace.HeadPlace, declared.head.HeadStep.HeadStep}
use Rattle.inf_lexer.specs.Heads.{HeadFound, comment_step, gap_step, head_found, head_step, is_behind, is_cut, is_word, line_step}
use Rattle.inf_lexer.specs.Heads.{HeadRead, goes_on_at, head_read_of, next_head_word, place_behind, with_head_byte}
use Rattle.inf_lexer.specs.{Reading.Fills, Reading.Heard, Unread.View, Unread.to_come, Unread.unread}
use Rattle.inf_lexer.proofs.{Reading.heard_as, Reading.heard_same, Unfinished.stays_open}

-- where nothing is left, the head ends there
pub head_end : (p : HeadPlace) (word : List ℕ) (lines : Lines) (left rest : List ℕ) → left ≡ [] → rest ≡ []
    → record { place = p; word = word; lines = lines; rest = left ++ rest } ≡ head_found p word lines (left ++ rest)
head_end p word lines left rest e none =
    let both : left ++ rest ≡ [] = ap (λ l. l ++ rest) e ∙ none in
    subst (λ (l : List ℕ). record { place = p; word = word; lines = lines; rest = l } ≡ head_found p word lines l) (sym both) refl

-- Lemmas about bytes that are passed over

abbrev leads_behind : HeadStep → Bool
leads_behind (HeadStep.Pass next) = is_behind next
leads_behind HeadStep.Keep = false
leads_behind HeadStep.Stop = false

of_choice : (b : Bool) (x y : HeadStep) → leads_behind x ≡ false → leads_behind y ≡ false → leads_behind (cond b x y) ≡ false
of_choice true x y e f = e
of_choice false x y e f = f

line_leads : (b : ℕ) → leads_behind (line_step b) ≡ false
line_leads b = of_choice (b == 33) (HeadStep.Pass HeadPlace.Sign) HeadStep.Stop refl refl

comment_leads : (b : ℕ) → leads_behind (comment_step b) ≡ false
comment_leads b = of_choice (is_line_end b) HeadStep.Stop (HeadStep.Pass HeadPlace.Comment) refl refl

gap_leads : (b : ℕ) → leads_behind (gap_step b) ≡ false
gap_leads b = of_choice (is_cut b) (HeadStep.Pass HeadPlace.Gap) _ refl (of_choice (b == 13) (HeadStep.Pass HeadPlace.Return) _ refl
    (of_choice (b == 10) (HeadStep.Pass HeadPlace.Line) HeadStep.Keep refl refl))

leads_on : (p : HeadPlace) (b : ℕ) → leads_behind (head_step p b) ≡ false
leads_on HeadPlace.Line b = line_leads b
leads_on HeadPlace.Return b = of_choice (b == 10) (HeadStep.Pass HeadPlace.Line) (line_step b) refl (line_leads b)
leads_on HeadPlace.Sign b = of_choice (b == 37) (HeadStep.Pass HeadPlace.Gap) (comment_step b) refl (comment_leads b)
leads_on HeadPlace.Gap b = gap_leads b
leads_on HeadPlace.Word b = of_choice (is_cut b || is_line_end b) HeadStep.Stop HeadStep.Keep refl refl
leads_on HeadPlace.Comment b = comment_leads b
leads_on HeadPlace.Behind b = refl

-- no byte that is passed over leads behind the head
pub passes_before : (p next : HeadPlace) (b : ℕ) → head_step p b ≡ HeadStep.Pass next → is_behind next ≡ false
passes_before p next b e = sym (ap leads_behind e) ∙ leads_on p b

-- the place where the head goes on behind a call
pub goes_on_is : (p : HeadPlace) → place_behind p ≡ goes_on_at (is_word p)
goes_on_is HeadPlace.Word = refl
goes_on_is p = refl

-- Lemmas about the end that is found

abbrev pub after_step : HeadStep → HeadPlace → List ℕ → Lines → ℕ → List ℕ → HeadFound
after_step s p word lines b bs = elim s [
  | HeadStep.Pass next ↦ head_found next word (past b lines) bs
  | HeadStep.Keep ↦ head_found HeadPlace.Word (with_head_byte b word) (past b lines) bs
  | HeadStep.Stop ↦ record { place = p; word = word; lines = lines; rest = b ∷ bs }
]

step_within : (s : HeadStep) (p : HeadPlace) (word : List ℕ) (lines : Lines) (b : ℕ) (bs : List ℕ)
    → ((q : HeadPlace) (w : List ℕ) → length (head_found q w (past b lines) bs).rest ≤ length bs)
    → length (after_step s p word lines b bs).rest ≤ length (b ∷ bs)
step_within (HeadStep.Pass next) p word lines b bs h = omega (arith, h next word)
step_within HeadStep.Keep p word lines b bs h = omega (arith, h HeadPlace.Word (with_head_byte b word))
step_within HeadStep.Stop p word lines b bs h = omega arith

-- the bytes behind a head are no more than there were
pub found_within : (p : HeadPlace) (word : List ℕ) (lines : Lines) (bytes : List ℕ)
    → length (head_found p word lines bytes).rest ≤ length bytes
found_within p word lines [] = omega arith
found_within p word lines (b ∷ bs) = step_within (head_step p b) p word lines b bs (λ q w. found_within q w (past b lines) bs)

-- Each place takes one at least of some bytes, but for the place behind the head.
record TakesMore (p : HeadPlace) (word : List ℕ) (lines : Lines) : Type 0 where
  more : List ℕ
  takes : length (head_found p word lines more).rest < length more

found_more : (p : HeadPlace) (word : List ℕ) (lines : Lines) → is_behind p ≡ false → TakesMore p word lines
found_more HeadPlace.Line word lines e = record { more = 33 ∷ []; takes = omega arith }
found_more HeadPlace.Return word lines e = record { more = 10 ∷ []; takes = omega arith }
found_more HeadPlace.Sign word lines e = record { more = 37 ∷ []; takes = omega arith }
found_more HeadPlace.Gap word lines e = record { more = 32 ∷ []; takes = omega arith }
found_more HeadPlace.Word word lines e = record { more = 65 ∷ []; takes = omega arith }
found_more HeadPlace.Comment word lines e = record { more = 65 ∷ []; takes = omega arith }
found_more HeadPlace.Behind word lines e = absurd (let never : true ≡ false = e in cc)

-- a word is found behind one of its bytes at least, where none was read before
word_by : (s : HeadStep) (p : HeadPlace) (word : List ℕ) (lines : Lines) (b : ℕ) (bs : List ℕ) → is_word p ≡ false
    → is_word (after_step s p word lines b bs).place ≡ true → length (after_step s p word lines b bs).rest < length (b ∷ bs)
word_by (HeadStep.Pass next) p word lines b bs none is = omega (arith, found_within next word (past b lines) bs)
word_by HeadStep.Keep p word lines b bs none is = omega (arith, found_within HeadPlace.Word (with_head_byte b word) (past b lines) bs)
word_by HeadStep.Stop p word lines b bs none is = absurd (let never : true ≡ false = sym is ∙ none in cc)

pub words_take : (p : HeadPlace) (word : List ℕ) (lines : Lines) (bytes : List ℕ) → is_word p ≡ false
    → is_word (head_found p word lines bytes).place ≡ true → length (head_found p word lines bytes).rest < length bytes
words_take p word lines [] none is = absurd (let never : true ≡ false = sym is ∙ none in cc)
words_take p word lines (b ∷ bs) none is = word_by (head_step p b) p word lines b bs none is

-- the word of a head, by the end that was heard
pub heard_word : {S : Type 0} {f : Files S} {a b : S} {u v : View} {from at place : HeadPlace} {begun word : List ℕ} {was now : Lines}
    {is : Bool} → Heard HeadFound f false a b u v (λ rest. record { place = at; word = word; lines = now; rest = rest })
    (head_found from begun was) → begun ≡ [] → is ≡ is_word at → place ≡ place_behind at
    → Heard HeadRead f false a b u v (λ rest. record { is_word = is; place = place; word = word; lines = now; rest = rest })
    (next_head_word from was)
heard_word {f = f} {a = a} {b = b} {u = u} {v = v} {from = from} {at = at} {place = place} {word = word} {was = was} {now = now} h cleared
    tells goes = heard_same (heard_as head_read_of
    (subst (λ w. Heard HeadFound f false a b u v (λ rest. record { place = at; word = word; lines = now; rest = rest })
    (head_found from w was)) cleared h)) (λ rest may.
    ap (λ x. record { is_word = x; place = place; word = word; lines = now; rest = v.left ++ rest }) tells
    ∙ ap (λ p. record { is_word = is_word at; place = p; word = word; lines = now; rest = v.left ++ rest }) goes)

-- a word that was heard took its bytes
pub took_word : {S : Type 0} {f : Files S} {a b : S} {before after : View} {from at : HeadPlace} {begun word : List ℕ} {was now : Lines}
    → Heard HeadFound f false a b before after (λ rest. record { place = at; word = word; lines = now; rest = rest })
    (head_found from begun was) → TookWord (is_word at) from before after
took_word {before = before} {after = after} {from = from} {at = at} {begun = begun} {word = word} {was = was} {now = now} h = λ there none.
    let bytes : List ℕ = before.left ++ (h.went.bytes ++ []) in
    let same : record { place = at; word = word; lines = now; rest = after.left ++ [] } ≡ head_found from begun was bytes =
    h.same [] (λ _. refl) in
    let takes = words_take from begun was bytes none (sym (ap (λ (f : HeadFound). is_word f.place) same) ∙ there) in
    omega (
      arith,
      ap (λ (f : HeadFound). length f.rest) same,
      takes,
      h.went.given,
      length-append after.left [],
      length-append before.left (h.went.bytes ++ []),
      length-append h.went.bytes [],
    )

-- Nothing was in view any more and nothing more was given.
pub head_stays_open : {S : Type 0} {f : Files S} {a b c : S} {u v w : View} {from at : HeadPlace} {word now : List ℕ} {was lines : Lines}
    → Heard HeadFound f false a b u v (head_found at now lines) (head_found from word was) → Fills f true b c v w
    → is_behind at ≡ false → (v.left ≡ []) × (v.is_over ≡ false)
    → (w.given ≡ v.given) ⊎ ((v.given ≡ 16777216) × (w.given ≡ 16777217)) → IsTrue (f.is_honest a)
    → StaysOpen (λ bytes. (head_found from word was bytes).rest) (to_come (f.sources a) (f.openings a) u) (w.given - 16777216)
    (unread (f.sources a) (f.openings c))
head_stays_open {at = at} {now = now} {lines = lines} h r opens empty last honest =
    let more = found_more at now lines opens in
    stays_open (λ (x : HeadFound). x.rest) h r empty last (λ behind. found_within at now lines behind) more.more more.takes honest
