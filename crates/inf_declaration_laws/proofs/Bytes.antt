-- The bytes of an array are those of the description.
use Rattle.std.proofs.Common.{◌≡◌, ℕ, ◌/◌, ◌%◌, ◌<◌, List, [], ◌∷◌, ◌++◌, length, refl, ap, ◌∙◌, arith}
use Rattle.inf_area.specs.declared.targets.{Target.Target, Value.Value}
use Rattle.inf_area.specs.Cells.{values_cells}
use Rattle.inf_arrays.specs.{Kinds.bytes_cells, declared.kinds.ArrayKind.ArrayKind}
use Rattle.inf_objects.specs.Reading.{filled}
use Rattle.inf_declaration_laws.specs.{ArrayLaws.AreBytes, ArrayLaws.BytesAgree, Arrays.as_bytes, Arrays.as_words, Arrays.two_bytes}

bytes_are : (address : Target → ℕ) (values : List Value) → AreBytes values → filled address (bytes_cells values) ≡ as_bytes address values
bytes_are address [] fit = refl
bytes_are address ((Value.Known n) ∷ values) fit =
    let low : n % 256 ≡ n = omega (arith, fit.0) in
    ap (λ b. b ∷ filled address (bytes_cells values)) low ∙ ap (λ l. n ∷ l) (bytes_are address values fit.1)
bytes_are address ((Value.Later t) ∷ values) fit = elim fit [ ]

words_are : (address : Target → ℕ) (values : List Value) → filled address (values_cells values) ≡ as_words address values
words_are address [] = refl
words_are address ((Value.Known n) ∷ values) = ap (λ l. (n / 256) ∷ (n % 256) ∷ l) (words_are address values)
words_are address ((Value.Later t) ∷ values) = ap (λ l. (address t / 256) ∷ (address t % 256) ∷ l) (words_are address values)

pub bytes_agree : BytesAgree
bytes_agree address ArrayKind.Bytes values fit = bytes_are address values fit
bytes_agree address ArrayKind.Words values fit = words_are address values
bytes_agree address ArrayKind.String values fit =
    let low : length values % 256 ≡ length values = omega (arith, fit.0) in
    ap (λ b. b ∷ filled address (bytes_cells values)) low ∙ ap (λ l. length values ∷ l) (bytes_are address values fit.1)
bytes_agree address ArrayKind.Table values fit =
    let low : length values % 65536 ≡ length values = omega (arith, fit) in
    ap (λ c. two_bytes c ++ filled address (values_cells values)) low ∙ ap (λ l. two_bytes (length values) ++ l) (words_are address values)
