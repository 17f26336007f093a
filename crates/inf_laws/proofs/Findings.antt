-- The first error of a header.
use Rattle.std.proofs.Common.{◌≡◌, ◌⊎◌, inl, inr, ℕ, suc, zero, ◌+◌, ◌<◌, ◌≤◌, List, [], ◌∷◌, ◌++◌, append_assoc, append-nil, length, length-append}
use Rattle.std.proofs.Common.{cond, ltb, Bool, true, false, Option, None, Some, refl, sym, ap, subst, ◌∙◌, arith}
use Rattle.std.proofs.lemmas.Bool.{cond_both, le-ltb, lt-ltb, ltb-false, ltb-true}
use Rattle.std.proofs.lemmas.List.Elements.{Contains-append_cases, Contains-append_left, Contains-append_right}
use Rattle.std.specs.Prelude.{Contains, find, is_some, option_map, slice_index_or, if◌then◌else◌}
use Rattle.std.specs.Str.{bytes_eq, str_eq_ignore_ascii_case}
use Rattle.inf_settings.specs.Bounds.{Limits}
use Rattle.inf_scanner.specs.declared.tokens.Place.{Place}
use Rattle.inf_syntax.specs.declared.actions.Action.{Action}
use Rattle.inf_names.specs.{Spellings.Name, declared.symbols.DeclareFault.DeclareFault, declared.symbols.Found.Found as FoundName}
use Rattle.inf_names.specs.Symbols.{Table, declare_fault, declare_fault_by, folded, found_in, is_full}
use Rattle.inf_names.specs.Locals.{Headed, Local, Repeated, earlier, local_of, most_locals, no_locals, with_local_by, with_locals}
use Rattle.inf_unit.specs.{Messages.Diagnostic, Messages.FileNames, Tokens.SourceToken, Units.first_place}
use Rattle.inf_compilation.specs.{Actions.Compilation, Actions.header_of, Actions.header_with, Actions.passed, Context.Context}
use Rattle.inf_compilation.specs.Findings.{Again, again_by, again_local, again_told, header_findings as found_in_header, told_as, told_by}
use Rattle.inf_reader.specs.Acting.{act}
use Rattle.inf_laws.specs.Findings.{Finding, HeadersTellTheFirst, IsBefore, IsLeast, IsTold, declared_before, different, first_named}
use Rattle.inf_laws.specs.Findings.{header_findings, many_locals, repeated_local, repeated_locals, repeated_one, system_routine, taken_as}
use Rattle.inf_laws.specs.Findings.{taken_name, told_behind, too_many_locals}
use Rattle.inf_laws.proofs.{Choices.either, Choices.either-none, SameNames.same_names}

abbrev first_fault : Option Diagnostic → Option Diagnostic → Option Diagnostic
first_fault (Some b) later = Some b
first_fault None later = later

-- the errors of a local that is named again, and of the name of a routine
abbrev local_fault : FileNames → Option Repeated → Option Diagnostic
local_fault files r = option_map (again_told files) (again_local r)

abbrev name_fault : FileNames → Name → Option (DeclareFault Place) → Option Diagnostic
name_fault files name f = option_map (again_told files) (again_by name f)

-- Lemmas about least findings

not_before_itself : (f : Finding) → IsBefore f f → ⊥
not_before_itself f (inl less) = omega (arith, less)
not_before_itself f (inr same) = omega (arith, same.1)

not_both : (f g : Finding) → IsBefore f g → IsBefore g f → ⊥
not_both f g (inl less) (inl more) = omega (arith, less, more)
not_both f g (inl less) (inr same) = omega (arith, less, same.0)
not_both f g (inr same) (inl more) = omega (arith, same.0, more)
not_both f g (inr same) (inr more) = omega (arith, same.1, more.1)

-- a finding is the least where each other one comes behind it
least : (f : Finding) (all : List Finding) → Contains all f → ((g : Finding) → Contains all g → (g ≡ f) ⊎ IsBefore f g) → IsLeast f all
least f all there behind = record {
  is_there = there;
  none_before = λ g among before. never g (behind g among) before;
  others_behind = behind;
}
  where
    never : (g : Finding) → (g ≡ f) ⊎ IsBefore f g → IsBefore g f → ⊥
    never g (inl same) before = not_before_itself f (subst (λ x. IsBefore x f) same before)
    never g (inr later) before = not_both f g later before

one_of_none : (g : Finding) → Contains [] g → ⊥
one_of_none g among = omega (arith, among.1)

one_of_one : (f g : Finding) → Contains (f ∷ []) g → g ≡ f
one_of_one f g among = go among.0 among.1 among.2
  where
    go : (k : ℕ) → k < 1 → slice_index_or (f ∷ []) k g ≡ g → g ≡ f
    go zero less is = sym is
    go (suc k) less is = absurd (omega (arith, less))

told_one : (f : Finding) → IsTold (Some f.blame) (f ∷ [])
told_one f = (f, refl, least f (f ∷ []) (0, omega arith, refl) (λ g among. inl (one_of_one f g among)))

-- each of some findings comes before each of others
abbrev AreBefore : List Finding → List Finding → Type 0
AreBefore fs gs = (f g : Finding) → Contains fs f → Contains gs g → IsBefore f g

-- the error of two lists, of which the first comes first
first_before : (b : Diagnostic) (fs gs : List Finding) → IsTold (Some b) fs → AreBefore fs gs → IsTold (Some b) (fs ++ gs)
first_before b fs gs told before =
    let f = told.0 in
    (f, told.1, least f (fs ++ gs) (Contains-append_left fs gs f told.2.is_there) (λ g among. go g (Contains-append_cases fs gs g among)))
  where
    go : (g : Finding) → Contains fs g ⊎ Contains gs g → (g ≡ told.0) ⊎ IsBefore told.0 g
    go g (inl among) = told.2.others_behind g among
    go g (inr among) = inr (before told.0 g told.2.is_there among)

-- the error of two lists, of which the second comes first
second_before : (b : Diagnostic) (fs gs : List Finding) → IsTold (Some b) gs → AreBefore gs fs → IsTold (Some b) (fs ++ gs)
second_before b fs gs told before =
    let f = told.0 in
    (f, told.1, least f (fs ++ gs) (Contains-append_right fs gs f told.2.is_there) (λ g among. go g (Contains-append_cases fs gs g among)))
  where
    go : (g : Finding) → Contains fs g ⊎ Contains gs g → (g ≡ told.0) ⊎ IsBefore told.0 g
    go g (inl among) = inr (before told.0 g told.2.is_there among)
    go g (inr among) = told.2.others_behind g among

told_first : (x y : Option Diagnostic) (fs gs : List Finding) → IsTold x fs → IsTold y gs → AreBefore fs gs →
    IsTold (first_fault x y) (fs ++ gs)
told_first None y fs gs none told before = subst (λ l. IsTold y (l ++ gs)) (sym none) told
told_first (Some b) y fs gs told later before = first_before b fs gs told before

-- a finding that a test decides
abbrev found_if : Bool → Finding → List Finding
found_if t f = cond t (f ∷ []) []

-- Lemmas about headers

abbrev new_local : Name → Local
new_local n = record { name = n.bytes; place = n.place; is_named = false }

first_named-push : (name : List ℕ) (before : List Name) (n : Name) →
    first_named name (before ++ n ∷ []) ≡ either (first_named name before) (cond (str_eq_ignore_ascii_case n.bytes name) (Some n) None)
first_named-push name [] n = refl
first_named-push name (x ∷ before) n = go (str_eq_ignore_ascii_case x.bytes name) (first_named-push name before n)
  where
    go : (b : Bool) → first_named name (before ++ n ∷ []) ≡ either (first_named name before)
        (cond (str_eq_ignore_ascii_case n.bytes name) (Some n) None) → cond b (Some x) (first_named name (before ++ n ∷ [])) ≡ either
        (cond b (Some x) (first_named name before)) (cond (str_eq_ignore_ascii_case n.bytes name) (Some n) None)
    go true later = refl
    go false later = later

local_of-push : (name : List ℕ) (ls : List Local) (l : Local) →
    local_of name (ls ++ l ∷ []) ≡ either (local_of name ls) (cond (str_eq_ignore_ascii_case l.name name) (Some l) None)
local_of-push name [] l = refl
local_of-push name (m ∷ ls) l = go (str_eq_ignore_ascii_case m.name name) (local_of-push name ls l)
  where
    go : (b : Bool) → local_of name (ls ++ l ∷ []) ≡ either (local_of name ls) (cond (str_eq_ignore_ascii_case l.name name) (Some l) None) →
        cond b (Some m) (local_of name (ls ++ l ∷ [])) ≡ either (cond b (Some m) (local_of name ls))
        (cond (str_eq_ignore_ascii_case l.name name) (Some l) None)
    go true later = refl
    go false later = later

-- The locals are the different ones of these names.
abbrev AreOf : List Name → List Local → Type 0
AreOf before ls = (name : List ℕ) → local_of name ls ≡ option_map new_local (first_named name before)

are_of-repeated : (before : List Name) (n first : Name) (ls : List Local) → AreOf before ls → first_named n.bytes before ≡ Some first →
    AreOf (before ++ n ∷ []) ls
are_of-repeated before n first ls of is name =
    of name ∙ ap (option_map new_local) (sym (first_named-push name before n ∙ go (str_eq_ignore_ascii_case n.bytes name) refl))
  where
    go : (b : Bool) → str_eq_ignore_ascii_case n.bytes name ≡ b →
        either (first_named name before) (cond b (Some n) None) ≡ first_named name before
    go true e =
        let found : first_named name before ≡ Some first =
        ap (λ k. find (λ x. bytes_eq (folded x.bytes) k) before) (sym (same_names n.bytes name e)) ∙ is in
        ap (λ o. either o (Some n)) found ∙ sym found
    go false e = either-none (first_named name before)

are_of-new : (before : List Name) (n : Name) (ls : List Local) → AreOf before ls → AreOf (before ++ n ∷ []) (ls ++ new_local n ∷ [])
are_of-new before n ls of name = local_of-push name ls (new_local n)
    ∙ ap (λ o. either o (cond (str_eq_ignore_ascii_case n.bytes name) (Some (new_local n)) None)) (of name)
    ∙ go (first_named name before) (str_eq_ignore_ascii_case n.bytes name)
    ∙ ap (option_map new_local) (sym (first_named-push name before n))
  where
    go : (o : Option Name) (b : Bool) →
        either (option_map new_local o) (cond b (Some (new_local n)) None) ≡ option_map new_local (either o (cond b (Some n) None))
    go None true = refl
    go None false = refl
    go (Some x) b = refl

-- the first local that is named again
abbrev repeat_by : Option Name → Name → Option Repeated
repeat_by None n = None
repeat_by (Some first) n = Some (record { name = n; first = first.place })

abbrev repeat_of : List Name → List Name → Option Repeated
repeat_of before [] = None
repeat_of before (n ∷ names) = either (repeat_by (first_named n.bytes before) n) (repeat_of (before ++ n ∷ []) names)

first_repeated : (files : FileNames) (o later : Option Repeated) →
    local_fault files (either o later) ≡ first_fault (local_fault files o) (local_fault files later)
first_repeated files None later = refl
first_repeated files (Some r) later = refl

repeated_told : (files : FileNames) (o : Option Name) (token : ℕ) (n : Name) →
    IsTold (local_fault files (repeat_by o n)) (repeated_one files o token n)
repeated_told files None token n = refl
repeated_told files (Some first) token n = told_one (repeated_local files first token n)

among_repeated : (files : FileNames) (o : Option Name) (token : ℕ) (n : Name) (g : Finding) → Contains (repeated_one files o token n) g →
    g.token ≡ token
among_repeated files None token n g among = absurd (one_of_none g among)
among_repeated files (Some first) token n g among = ap (λ f. f.token) (one_of_one (repeated_local files first token n) g among)

among_repeats : (files : FileNames) (before : List Name) (token : ℕ) (names : List Name) (g : Finding) →
    Contains (repeated_locals files before token names) g → token ≤ g.token
among_repeats files before token [] g among = absurd (one_of_none g among)
among_repeats files before token (n ∷ names) g among = go (Contains-append_cases (repeated_one files (first_named n.bytes before) token n)
    (repeated_locals files (before ++ n ∷ []) (token + 1) names) g among)
    (among_repeats files (before ++ n ∷ []) (token + 1) names g)
  where
    go : Contains (repeated_one files (first_named n.bytes before) token n) g ⊎ Contains
        (repeated_locals files (before ++ n ∷ []) (token + 1) names) g →
        (Contains (repeated_locals files (before ++ n ∷ []) (token + 1) names) g → token + 1 ≤ g.token) → token ≤ g.token
    go (inl here) later = omega (arith, among_repeated files (first_named n.bytes before) token n g here)
    go (inr there) later = omega (arith, later there)

repeats_told : (files : FileNames) (before : List Name) (token : ℕ) (names : List Name) →
    IsTold (local_fault files (repeat_of before names)) (repeated_locals files before token names)
repeats_told files before token [] = refl
repeats_told files before token (n ∷ names) =
    let here = repeat_by (first_named n.bytes before) n in
    let there = repeat_of (before ++ n ∷ []) names in
    subst (λ b. IsTold b (repeated_locals files before token (n ∷ names))) (sym (first_repeated files here there))
    (told_first (local_fault files here) (local_fault files there) (repeated_one files (first_named n.bytes before) token n)
    (repeated_locals files (before ++ n ∷ []) (token + 1) names)
    (repeated_told files (first_named n.bytes before) token n) (repeats_told files (before ++ n ∷ []) (token + 1) names)
    (λ f g here there. inl (omega (
      arith,
      among_repeated files (first_named n.bytes before) token n f here,
      among_repeats files (before ++ n ∷ []) (token + 1) names g there,
    ))))

-- where there are more than 15 locals there are still more behind further names
full_stays : (names : List Name) (h : Headed) → h.are_too_many ≡ true → (with_locals names h).are_too_many ≡ true
full_stays [] h full = full
full_stays (n ∷ names) h full = full_stays names (with_local_by n (local_of n.bytes h.locals) h) (go (local_of n.bytes h.locals))
  where
    go : (o : Option Local) → (with_local_by n o h).are_too_many ≡ true
    go (Some l) = full
    go None = cond_both (ltb (length h.locals) most_locals) (record h { locals = h.locals ++ new_local n ∷ [] })
        (record h { are_too_many = true }) (λ x. x.are_too_many ≡ true) (λ _. full) (λ _. refl)

-- The findings of a header's locals: there are more than 15 different ones, or the first that comes again is told.
data Ends (before names : List Name) (h after : Headed) : Type 0 where
  Full : after.are_too_many ≡ true → 15 < length h.locals + different before names → Ends before names h after
  Fits : after.are_too_many ≡ false → length h.locals + different before names ≤ 15 →
      after.repeated ≡ either h.repeated (repeat_of before names) → Ends before names h after

first-earlier : (o later : Option Repeated) (r : Repeated) → either (earlier o r) later ≡ either o (Some r)
first-earlier None later r = refl
first-earlier (Some c) later r = refl

-- the findings of the names behind one more
onward : (before names : List Name) (n : Name) (o : Option Name) (h next after : Headed) → first_named n.bytes before ≡ o →
    length next.locals ≡ length h.locals + cond (is_some o) 0 1 →
    ((later : Option Repeated) → either next.repeated later ≡ either h.repeated (either (repeat_by o n) later)) →
    Ends (before ++ n ∷ []) names next after → Ends before (n ∷ names) h after
onward before names n o h next after is len same (Full full more) =
    let count : different before (n ∷ names) ≡ cond (is_some o) 0 1 + different (before ++ n ∷ []) names =
    ap (λ x. cond (is_some x) 0 1 + different (before ++ n ∷ []) names) is in
    Full full (omega (arith, len, count, more))
onward before names n o h next after is len same (Fits fits few repeated) =
    let count : different before (n ∷ names) ≡ cond (is_some o) 0 1 + different (before ++ n ∷ []) names =
    ap (λ x. cond (is_some x) 0 1 + different (before ++ n ∷ []) names) is in
    Fits fits (omega (arith, len, count, few))
    (repeated ∙ same (repeat_of (before ++ n ∷ []) names)
    ∙ ap (λ x. either h.repeated (either (repeat_by x n) (repeat_of (before ++ n ∷ []) names))) (sym is))

-- the findings of a header's locals, after some of them
ends : (names before : List Name) (h : Headed) → AreOf before h.locals → h.are_too_many ≡ false → length h.locals ≤ 15 →
    Ends before names h (with_locals names h)
ends [] before h of fits few = Fits fits (omega (arith, few)) (sym (either-none h.repeated))
ends (n ∷ names) before h of fits few = go (first_named n.bytes before) refl (ends names (before ++ n ∷ []))
  where
    fresh : (b : Bool) → ltb (length h.locals) 15 ≡ b → first_named n.bytes before ≡ None →
        ((h : Headed) → AreOf (before ++ n ∷ []) h.locals → h.are_too_many ≡ false → length h.locals ≤ 15 → Ends (before ++ n ∷ []) names h
        (with_locals names h)) → Ends before (n ∷ names) h
        (with_locals names (cond b (record h { locals = h.locals ++ new_local n ∷ [] }) (record h { are_too_many = true })))
    fresh true room is later =
        let more : Headed = record h { locals = h.locals ++ new_local n ∷ [] } in
        let len = length-append h.locals (new_local n ∷ []) in
        onward before names n None h more (with_locals names more) is len (λ x. refl)
        (later more (are_of-new before n h.locals of) fits (omega (arith, len, ltb-true (length h.locals) 15 room)))
    fresh false room is later =
        let full : Headed = record h { are_too_many = true } in
        let count : different before (n ∷ names) ≡ 1 + different (before ++ n ∷ []) names =
        ap (λ x. cond (is_some x) 0 1 + different (before ++ n ∷ []) names) is in
        Full (full_stays names full refl) (omega (arith, count, ltb-false (length h.locals) 15 room))

    go : (o : Option Name) → first_named n.bytes before ≡ o →
        ((h : Headed) → AreOf (before ++ n ∷ []) h.locals → h.are_too_many ≡ false → length h.locals ≤ 15 → Ends (before ++ n ∷ []) names h
        (with_locals names h)) → Ends before (n ∷ names) h (with_locals names (with_local_by n (local_of n.bytes h.locals) h))
    go None is later =
        subst (λ l. Ends before (n ∷ names) h (with_locals names (with_local_by n l h))) (sym (of n.bytes ∙ ap (option_map new_local) is))
        (fresh (ltb (length h.locals) 15) refl is later)
    go (Some first) is later =
        let r : Repeated = record { name = n; first = first.place } in
        let again : Headed = record h { repeated = earlier h.repeated r } in
        let len : length h.locals ≡ length h.locals + 0 = omega arith in
        subst (λ l. Ends before (n ∷ names) h (with_locals names (with_local_by n l h))) (sym (of n.bytes ∙ ap (option_map new_local) is))
        (onward before names n (Some first) h again (with_locals names again) is len (λ x. first-earlier h.repeated x r)
        (later again (are_of-repeated before n first h.locals of is) fits few))

-- Lemmas about the name of a routine

routine_told_by : (files : FileNames) (f : FoundName Place) (full : Bool) (name : Name) →
    IsTold (name_fault files name (declare_fault_by f full)) (taken_as files f name)
routine_told_by files (FoundName.System meaning) full name = told_one (system_routine name)
routine_told_by files (FoundName.Declared meaning first) full name = told_one (declared_before files first name)
routine_told_by files FoundName.Used full name = refl
routine_told_by files FoundName.Unknown true name = refl
routine_told_by files FoundName.Unknown false name = refl

routine_told : (limits : Limits) (files : FileNames) (names : Table Place) (name : Name) →
    IsTold (name_fault files name (declare_fault limits name.bytes names)) (taken_name files names name)
routine_told limits files names name = routine_told_by files (found_in name.bytes names) (is_full limits names) name

among_routine : (files : FileNames) (f : FoundName Place) (name : Name) (g : Finding) → Contains (taken_as files f name) g → g.token ≡ 1
among_routine files (FoundName.System meaning) name g among = ap (λ f. f.token) (one_of_one (system_routine name) g among)
among_routine files (FoundName.Declared meaning first) name g among =
    ap (λ f. f.token) (one_of_one (declared_before files first name) g among)
among_routine files FoundName.Used name g among = absurd (one_of_none g among)
among_routine files FoundName.Unknown name g among = absurd (one_of_none g among)

-- The error that is told of a header: the least of its findings.
abbrev header_fault : FileNames → Place → Option Again → Headed → Option Diagnostic
header_fault files unit again h = cond h.are_too_many (Some (too_many_locals unit).blame)
    (first_fault (option_map (again_told files) again) (local_fault files h.repeated))

header_fault_is : (files : FileNames) (tokens : List SourceToken) (unit : Place) (again : Option Again) (h : Headed) →
    told_as files tokens unit (found_in_header 1 again h) ≡ header_fault files unit again h
unfolding told_by
header_fault_is files tokens unit again h = go h.are_too_many again h.repeated
  where
    go : (many : Bool) (again : Option Again) (repeated : Option Repeated) →
        told_as files tokens unit (found_in_header 1 again (record { locals = h.locals; repeated = repeated; are_too_many = many }))
        ≡ header_fault files unit again (record { locals = h.locals; repeated = repeated; are_too_many = many })
    go true (Some a) repeated = refl
    go true None (Some r) = refl
    go true None None = refl
    go false (Some a) repeated = refl
    go false None (Some r) = refl
    go false None None = refl

header_told : (limits : Limits) (files : FileNames) (unit : Place) (names : Table Place) (name : Name) (locals : List Name) (h : Headed) →
    Ends [] locals
    no_locals h → IsTold (header_fault files unit (again_by name (declare_fault limits name.bytes names)) h)
    (taken_name files names name ++ (repeated_locals files [] 2 locals ++ many_locals unit locals))
header_told limits files unit names name locals h (Full full more) =
    let of_name = taken_name files names name in
    let repeats = repeated_locals files [] 2 locals in
    let fault = name_fault files name (declare_fault limits name.bytes names) in
    let many : many_locals unit locals ≡ too_many_locals unit ∷ [] =
    ap (λ b. found_if b (too_many_locals unit)) (lt-ltb 15 (different [] locals) (omega (arith, more))) in
    let first : header_fault files unit (again_by name (declare_fault limits name.bytes names)) h ≡ Some (too_many_locals unit).blame =
    ap (λ b. cond b (Some (too_many_locals unit).blame) (first_fault fault (local_fault files h.repeated))) full in
    subst (λ x. IsTold x (of_name ++ (repeats ++ many_locals unit locals))) (sym first)
    (subst (λ l. IsTold (Some (too_many_locals unit).blame) (of_name ++ (repeats ++ l))) (sym many)
    (subst (IsTold (Some (too_many_locals unit).blame)) (append_assoc of_name repeats (too_many_locals unit ∷ []))
    (second_before (too_many_locals unit).blame (of_name ++ repeats) (too_many_locals unit ∷ []) (told_one (too_many_locals unit))
    (λ f g here there. behind f g (one_of_one (too_many_locals unit) f here) (Contains-append_cases of_name repeats g there)))))
  where
    behind : (f g : Finding) → f ≡ too_many_locals unit →
        Contains (taken_name files names name) g ⊎ Contains (repeated_locals files [] 2 locals) g → IsBefore f g
    behind f g is (inl there) = let at : f.token ≡ (too_many_locals unit).token = ap (λ f. f.token) is in inl
        (omega (arith, at, among_routine files (found_in name.bytes names) name g there))
    behind f g is (inr there) = let at : f.token ≡ (too_many_locals unit).token = ap (λ f. f.token) is in inl
        (omega (arith, at, among_repeats files [] 2 locals g there))
header_told limits files unit names name locals h (Fits fits few repeated) =
    let of_name = taken_name files names name in
    let repeats = repeated_locals files [] 2 locals in
    let fault = name_fault files name (declare_fault limits name.bytes names) in
    let again = local_fault files (repeat_of [] locals) in
    let many : many_locals unit locals ≡ [] =
    ap (λ b. found_if b (too_many_locals unit)) (le-ltb 15 (different [] locals) (omega (arith, few))) in
    let first : header_fault files unit (again_by name (declare_fault limits name.bytes names)) h ≡ first_fault fault again =
    ap (λ b. cond b (Some (too_many_locals unit).blame) (first_fault fault (local_fault files h.repeated))) fits
    ∙ ap (λ r. first_fault fault (local_fault files r)) repeated in
    subst (λ x. IsTold x (of_name ++ (repeats ++ many_locals unit locals))) (sym first)
    (subst (λ l. IsTold (first_fault fault again) (of_name ++ l)) (sym (append-nil repeats) ∙ ap (λ l. repeats ++ l) (sym many))
    (told_first fault again of_name repeats (routine_told limits files names name) (repeats_told files [] 2 locals)
    (λ f g here there. inl (omega (
      arith,
      among_routine files (found_in name.bytes names) name f here,
      among_repeats files [] 2 locals g there,
    )))))

abbrev told_of : Limits → Context → Place → Headed → Name → Compilation → Option Diagnostic
told_of limits context first h name w =
    told_as context.names w.unit.tokens first (found_in_header 1 (again_by name (declare_fault limits name.bytes w.output.names)) h)

header_is_told : (limits : Limits) (context : Context) (first : Place) (name : Name) (locals : List Name) (w : Compilation)
    → IsTold (told_of limits context first (with_locals locals no_locals) name w)
    (header_findings context.names first w.output.names name locals)
header_is_told limits context first name locals w =
    let h = with_locals locals no_locals in
    let names = w.output.names in
    let again = again_by name (declare_fault limits name.bytes names) in
    subst (λ b. IsTold b (header_findings context.names first names name locals))
    (sym (header_fault_is context.names w.unit.tokens first again h))
    (header_told limits context.names first names name locals h (ends locals [] no_locals (λ name. refl) refl (omega arith)))

-- the end of a header whose routine is not passed over
abbrev opened_by : Limits → Context → Place → Name → Headed → Compilation → Compilation
opened_by limits context first name h w = header_with limits context first name h (record w { is_replaced = false; is_embedded = false })

pub headers_tell_the_first : (limits : Limits) → HeadersTellTheFirst limits
headers_tell_the_first limits context place name others locals w named headed kept =
    let first = first_place w.unit.tokens place in
    let after = opened_by limits context first name w.unit.headed w in
    let same : act limits context place Action.EndLocals w ≡ after = ap (λ names. header_of limits context first names w) named
    ∙ ap (λ b. if b then passed true (record w { is_replaced = true; is_embedded = false; constructs = [] }) else after) kept in
    let all = header_findings context.names first w.output.names name locals in
    record {
      told = told_of limits context first w.unit.headed name w;
      is_told = subst (λ h. IsTold (told_of limits context first h name w) all) (sym headed) (header_is_told limits context first name locals w);
      report = ap (λ (x : Compilation). x.report) same
          ∙ ap (told_behind limits context first (told_of limits context first w.unit.headed name w) w.report) (sym same);
    }
