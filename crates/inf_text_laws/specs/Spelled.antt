-- The escapes of a text and their characters, given by a table and not by reading.
use Rattle.std.specs.Prelude.{◌≡◌, ℕ, ◌+◌, ◌/◌, ◌%◌, nat_lt, IsTrue, Ok, List, [], ◌∷◌, map, codes, if◌then◌else◌}
use Rattle.inf_characters.specs.{Characters.is_code, Reading.text_of, declared.characters.CharSet.CharSet, declared.reading.Mode.Mode}
use Rattle.inf_characters.specs.{declared.texts.TextItem.TextItem}

-- a number below a thousand in decimal digits, without zeros at its front
abbrev pub decimal : ℕ → List ℕ
decimal n =
    if nat_lt n 10 then (48 + n) ∷ []
    else if nat_lt n 100 then (48 + n / 10) ∷ (48 + n % 10) ∷ []
    else (48 + n / 100) ∷ (48 + n / 10 % 10) ∷ (48 + n % 10) ∷ []

-- each of the 165 codes comes back from @@ and its number
abbrev pub ComesBack : CharSet → Mode → ℕ → Type 0
ComesBack set mode n =
    IsTrue (is_code n) → text_of set mode (64 ∷ 64 ∷ decimal n) ≡ Ok (TextItem.Character n ∷ [])

-- the accented letters with their two characters behind @ (Inform Designer's Manual, table 2); a slash may be used for a
-- backslash
unfoldable pub accents : List (ℕ × List ℕ)
accents =
    (155, codes ":a") ∷ (156, codes ":o") ∷ (157, codes ":u") ∷ (158, codes ":A")
    ∷ (159, codes ":O") ∷ (160, codes ":U") ∷ (161, codes "ss") ∷ (162, codes ">>")
    ∷ (163, codes "<<") ∷ (164, codes ":e") ∷ (165, codes ":i") ∷ (166, codes ":y")
    ∷ (167, codes ":E") ∷ (168, codes ":I") ∷ (169, codes "'a") ∷ (170, codes "'e")
    ∷ (171, codes "'i") ∷ (172, codes "'o") ∷ (173, codes "'u") ∷ (174, codes "'y")
    ∷ (175, codes "'A") ∷ (176, codes "'E") ∷ (177, codes "'I") ∷ (178, codes "'O")
    ∷ (179, codes "'U") ∷ (180, codes "'Y") ∷ (181, codes "`a") ∷ (182, codes "`e")
    ∷ (183, codes "`i") ∷ (184, codes "`o") ∷ (185, codes "`u") ∷ (186, codes "`A")
    ∷ (187, codes "`E") ∷ (188, codes "`I") ∷ (189, codes "`O") ∷ (190, codes "`U")
    ∷ (191, codes "^a") ∷ (192, codes "^e") ∷ (193, codes "^i") ∷ (194, codes "^o")
    ∷ (195, codes "^u") ∷ (196, codes "^A") ∷ (197, codes "^E") ∷ (198, codes "^I")
    ∷ (199, codes "^O") ∷ (200, codes "^U") ∷ (201, codes "oa") ∷ (202, codes "oA")
    ∷ (203, codes "\\o") ∷ (203, codes "/o") ∷ (204, codes "\\O") ∷ (204, codes "/O")
    ∷ (205, codes "~a") ∷ (206, codes "~n") ∷ (207, codes "~o") ∷ (208, codes "~A")
    ∷ (209, codes "~N") ∷ (210, codes "~O") ∷ (211, codes "ae") ∷ (212, codes "AE")
    ∷ (213, codes "cc") ∷ (214, codes "cC") ∷ (215, codes "th") ∷ (216, codes "et")
    ∷ (217, codes "Th") ∷ (218, codes "Et") ∷ (219, codes "LL") ∷ (220, codes "oe")
    ∷ (221, codes "OE") ∷ (222, codes "!!") ∷ (223, codes "??") ∷ []

-- @ and each spelling of an accented letter are read as its code
abbrev pub AccentsRead : CharSet → Mode → Type 0
AccentsRead set mode =
    map (λ accent. text_of set mode (64 ∷ accent.1)) accents ≡ map (λ accent. Ok (TextItem.Character accent.0 ∷ [])) accents
