-- The symbols of expressions come to the trees of these expressions, and give back the expressions themselves.
use Rattle.std.proofs.Common.{◌≡◌, ℕ, zero, suc, List, [], ◌∷◌, ◌++◌, ◌-◌, ◌==◌, false, map, None, refl, sym, ◌∙◌, ap, append_assoc}
use Rattle.std.proofs.Common.{append-nil, arith, reverse}
use Rattle.std.proofs.{lemmas.Bool.Decides.nat_tests, lemmas.List.reverse-append, lemmas.List.reverse-reverse}
use Rattle.inf_expressions.specs.declared.{operators.Binary.Binary, operators.Operand.Operand, symbols.Symbol.Symbol, units.Wanted.Wanted}
use Rattle.inf_expressions.specs.Units.{Gathered, acted, call_joined, gathered, judged, listed, nothing_gathered, roots_finding, trees_of}
use Rattle.inf_expressions.specs.Units.{with_two_of}
use Rattle.inf_expressions.specs.Sources.{Source, Leaf, Brackets, Prefix, Suffix, Two, Then, Call, Alone, found_in, found_in_all, meant}
use Rattle.inf_expressions.specs.Sources.{opened, postfixes}
use Rattle.inf_expressions.proofs.Reading.{Reads, all, joints, reading_all, run}

-- The symbols read into trees and findings.
abbrev gained : ℕ → List Operand → Source → Gathered → Gathered
gained unit operands a g = record { trees = meant operands a ∷ g.trees; finding = found_in unit operands a g.finding }

gathered_run : (w : Wanted) (unit : ℕ) (operands : List Operand) (symbols : List Symbol) (g : Gathered) →
    gathered w unit operands symbols g ≡ run (acted w unit operands) symbols g
gathered_run w unit operands [] g = refl
gathered_run w unit operands (s ∷ symbols) g = gathered_run w unit operands symbols (acted w unit operands s g)

listed_joints : (unit n : ℕ) (g : Gathered) → listed unit n g ≡ joints (with_two_of unit Binary.Then) n g
listed_joints unit zero g = refl
listed_joints unit (suc n) g = ap (with_two_of unit Binary.Then) (listed_joints unit n g)

call_gained : (w : Wanted) (unit : ℕ) (operands : List Operand) (n : ℕ) (f list : Source) (g given : Gathered) → n ≡ (opened list).1 →
    joints (with_two_of unit Binary.Then) n given ≡ gained unit operands list (gained unit operands f g) →
    acted w unit operands (Symbol.Call (suc n)) given ≡ gained unit operands (Call f list) g
call_gained w unit operands n f list g given is joined =
    let less : suc n - 1 ≡ n = omega arith in
    let no : (suc n == 0) ≡ false = grind (arith, nat_tests) in
    rw (no, less) (ap (call_joined unit (suc n)) (listed_joints unit n given ∙ joined)
    ∙ ap (λ k. call_joined unit (suc k) (gained unit operands list (gained unit operands f g))) is)

reads_trees : (w : Wanted) (unit : ℕ) (operands : List Operand) →
    Reads (acted w unit operands) (with_two_of unit Binary.Then) (gained unit operands)
reads_trees w unit operands = record {
  leaf = λ first token leaf g. refl;
  brackets = λ order a g. refl;
  prefix = λ order op a g. refl;
  suffix = λ op a g. refl;
  two = λ op a b g. refl;
  next = λ a b g. refl;
  list = λ n g. listed_joints unit (suc n) g;
  alone = λ f g. refl;
  call = λ n f list g given is joined. call_gained w unit operands n f list g given is joined;
}

gained_all : (unit : ℕ) (operands : List Operand) (sources : List Source) (g : Gathered) → all (gained unit operands) sources g
    ≡ record { trees = reverse (map (meant operands) sources) ++ g.trees; finding = found_in_all unit operands sources g.finding }
gained_all unit operands [] g = refl
gained_all unit operands (a ∷ sources) g = gained_all unit operands sources (gained unit operands a g)
    ∙ ap (λ trees. record { trees = trees; finding = found_in_all unit operands sources (found_in unit operands a g.finding) })
    (sym (append_assoc (reverse (map (meant operands) sources)) (meant operands a ∷ []) g.trees)
    ∙ ap (λ trees. trees ++ g.trees) (sym (reverse-append (meant operands a ∷ []) (map (meant operands) sources))))

gathered_all : (w : Wanted) (unit : ℕ) (operands : List Operand) (sources : List Source) →
    gathered w unit operands (postfixes sources) nothing_gathered
    ≡ record { trees = reverse (map (meant operands) sources); finding = found_in_all unit operands sources None }
gathered_all w unit operands sources = gathered_run w unit operands (postfixes sources) nothing_gathered
    ∙ reading_all (reads_trees w unit operands) sources nothing_gathered
    ∙ gained_all unit operands sources nothing_gathered
    ∙ ap (λ trees. record { trees = trees; finding = found_in_all unit operands sources None })
    (append-nil (reverse (map (meant operands) sources)))

pub trees_are : (w : Wanted) (unit : ℕ) (operands : List Operand) (sources : List Source) →
    trees_of w unit operands (postfixes sources) ≡ map (meant operands) sources
trees_are w unit operands sources =
    ap (λ (g : Gathered). reverse g.trees) (gathered_all w unit operands sources) ∙ reverse-reverse (map (meant operands) sources)

pub finding_is : (w : Wanted) (unit : ℕ) (operands : List Operand) (sources : List Source) →
    judged w unit operands (postfixes sources) ≡ roots_finding w unit (map (meant operands) sources)
    (found_in_all unit operands sources None)
finding_is w unit operands sources =
    ap (λ (g : Gathered). roots_finding w unit (reverse g.trees) g.finding) (gathered_all w unit operands sources)
    ∙ ap (λ trees. roots_finding w unit trees (found_in_all unit operands sources None)) (reverse-reverse (map (meant operands) sources))

-- The symbols read into the expressions themselves, the latest first.
abbrev over_one : (Source → Source) → List Source → List Source
over_one make [] = []
over_one make (a ∷ sources) = make a ∷ sources

abbrev over_two : (Source → Source → Source) → List Source → List Source
over_two make (b ∷ a ∷ sources) = make a b ∷ sources
over_two make _ = []

abbrev taken : Symbol → List Source → List Source
taken (Symbol.Leaf first token leaf) sources = Leaf first token leaf ∷ sources
taken (Symbol.Bracketed order) sources = over_one (Brackets order) sources
taken (Symbol.Prefix order op) sources = over_one (Prefix order op) sources
taken (Symbol.Suffix op) sources = over_one (Suffix op) sources
taken (Symbol.Two op) sources = over_two (Two op) sources
taken Symbol.Comma sources = over_two (Two Binary.Comma) sources
taken (Symbol.List n) sources = joints (over_two Then) n sources
taken (Symbol.Call zero) sources = over_one Alone sources
taken (Symbol.Call (suc n)) sources = over_two Call (joints (over_two Then) n sources)

reads_sources : Reads taken (over_two Then) (λ a sources. a ∷ sources)
reads_sources = record {
  leaf = λ first token leaf sources. refl;
  brackets = λ order a sources. refl;
  prefix = λ order op a sources. refl;
  suffix = λ op a sources. refl;
  two = λ op a b sources. refl;
  next = λ a b sources. refl;
  list = λ n sources. refl;
  alone = λ f sources. refl;
  call = λ n f list sources given is joined. ap (over_two Call) joined;
}

held_all : (sources before : List Source) → all (λ a held. a ∷ held) sources before ≡ reverse sources ++ before
held_all [] before = refl
held_all (a ∷ sources) before = held_all sources (a ∷ before) ∙ sym (append_assoc (reverse sources) (a ∷ []) before)
    ∙ ap (λ held. held ++ before) (sym (reverse-append (a ∷ []) sources))

read_back : (sources : List Source) → reverse (run taken (postfixes sources) []) ≡ sources
read_back sources =
    ap reverse (reading_all reads_sources sources [] ∙ held_all sources [] ∙ append-nil (reverse sources)) ∙ reverse-reverse sources

pub one_order : (sources others : List Source) → postfixes sources ≡ postfixes others → sources ≡ others
one_order sources others is = sym (read_back sources) ∙ ap (λ symbols. reverse (run taken symbols [])) is ∙ read_back others
