-- The lines that are read are those of the file.
use Rattle.std.proofs.Common.{◌≡◌, ℕ, ◌==◌, Bool, true, false, ◌&&◌, List, [], ◌∷◌, ◌++◌, if◌then◌else◌, refl, ap, sym, ◌∙◌, subst, arith}
use Rattle.px_job.specs.Lines.{begins_with, lines_of, with_byte}
use Rattle.px_job.specs.Filing.{IsLine, ends_with_return, Filed, nothing, last, fed, returned, LinesAreFiled}

-- a byte that goes on with the line
goes_on : (byte : ℕ) (bytes : List ℕ) → (byte == 10) ≡ false → ((byte == 13) && begins_with 10 bytes) ≡ false → lines_of (byte ∷ bytes) ≡ with_byte byte (lines_of bytes)
goes_on byte bytes e f = rw (e, f) refl

feed_behind : (line rest : List ℕ) → IsLine line → ends_with_return line ≡ false → lines_of (line ++ 10 ∷ rest) ≡ line ∷ lines_of rest
feed_behind [] rest is bare = refl
feed_behind (byte ∷ []) rest is bare = goes_on byte (10 ∷ rest) (grind (arith, is)) (grind (arith, bare))
feed_behind (byte ∷ next ∷ line) rest is bare =
    goes_on byte ((next ∷ line) ++ 10 ∷ rest) (grind (arith, is)) (grind (arith, is))
    ∙ ap (with_byte byte) (feed_behind (next ∷ line) rest (grind (arith, is)) bare)

return_behind : (line rest : List ℕ) → IsLine line → lines_of (line ++ 13 ∷ 10 ∷ rest) ≡ line ∷ lines_of rest
return_behind [] rest is = refl
return_behind (byte ∷ []) rest is = goes_on byte (13 ∷ 10 ∷ rest) (grind (arith, is)) (grind (arith, is))
return_behind (byte ∷ next ∷ line) rest is =
    goes_on byte ((next ∷ line) ++ 13 ∷ 10 ∷ rest) (grind (arith, is)) (grind (arith, is))
    ∙ ap (with_byte byte) (return_behind (next ∷ line) rest (grind (arith, is)))

only_line : (byte : ℕ) (line : List ℕ) → IsLine (byte ∷ line) → lines_of (byte ∷ line) ≡ (byte ∷ line) ∷ []
only_line byte [] is = goes_on byte [] (grind (arith, is)) (grind (arith, is))
only_line byte (next ∷ line) is = goes_on byte (next ∷ line) (grind (arith, is)) (grind (arith, is)) ∙ ap (with_byte byte) (only_line next line (grind (arith, is)))

complete : (lines : List (List ℕ)) (bytes : List ℕ) → Filed lines bytes → lines_of bytes ≡ lines
complete lines bytes nothing = refl
complete lines bytes (last byte line is) = only_line byte line is
complete lines bytes (fed line rest _ is bare e filed) = ap lines_of e ∙ feed_behind line rest is bare ∙ ap (λ (more : List (List ℕ)). line ∷ more) (complete _ rest filed)
complete lines bytes (returned line rest _ is e filed) = ap lines_of e ∙ return_behind line rest is ∙ ap (λ (more : List (List ℕ)). line ∷ more) (complete _ rest filed)

is_line_more : (byte : ℕ) (line : List ℕ) → (byte == 10) ≡ false → IsLine line → IsLine (byte ∷ line)
is_line_more byte line e is = rw e is

no_return_more : (byte : ℕ) (line rest : List ℕ) → ((byte == 13) && begins_with 10 (line ++ 10 ∷ rest)) ≡ false → ends_with_return line ≡ false → ends_with_return (byte ∷ line) ≡ false
no_return_more byte [] rest f bare = grind (arith, f)
no_return_more byte (next ∷ line) rest f bare = bare

-- a byte that goes on with the first line
more : (byte : ℕ) (lines : List (List ℕ)) (bytes : List ℕ) → (byte == 10) ≡ false → ((byte == 13) && begins_with 10 bytes) ≡ false → Filed lines bytes → Filed (with_byte byte lines) (byte ∷ bytes)
more byte lines bytes e f nothing = last byte [] (rw e refl)
more byte lines bytes e f (last next line is) = last byte (next ∷ line) (is_line_more byte (next ∷ line) e is)
more byte lines bytes e f (fed line rest _ is bare same filed) =
    fed (byte ∷ line) rest (byte ∷ bytes) (is_line_more byte line e is) (no_return_more byte line rest (ap (λ (bs : List ℕ). (byte == 13) && begins_with 10 bs) (sym same) ∙ f) bare) (ap (λ (bs : List ℕ). byte ∷ bs) same) filed
more byte lines bytes e f (returned line rest _ is same filed) = returned (byte ∷ line) rest (byte ∷ bytes) (is_line_more byte line e is) (ap (λ (bs : List ℕ). byte ∷ bs) same) filed

-- a CR before an LF
return_more : (byte next : ℕ) (rest : List ℕ) → ((byte == 13) && (next == 10)) ≡ true → Filed (lines_of rest) rest → Filed (lines_of (next ∷ rest)) (byte ∷ next ∷ rest)
return_more byte next rest f behind =
    let is_return : byte ≡ 13 = grind (arith, f) in
    let is_feed : next ≡ 10 = grind (arith, f) in
    let lines : lines_of (next ∷ rest) ≡ [] ∷ lines_of rest = ap (λ (n : ℕ). lines_of (n ∷ rest)) is_feed in
    let same : byte ∷ next ∷ rest ≡ 13 ∷ 10 ∷ rest = ap (λ (b : ℕ). b ∷ next ∷ rest) is_return ∙ ap (λ (n : ℕ). 13 ∷ n ∷ rest) is_feed in
    subst (λ (ls : List (List ℕ)). Filed ls (byte ∷ next ∷ rest)) (sym lines) (returned [] rest (byte ∷ next ∷ rest) refl same behind)

sound_by : (ends returns : Bool) (byte : ℕ) (bytes : List ℕ) → (byte == 10) ≡ ends → ((byte == 13) && begins_with 10 bytes) ≡ returns → Filed (lines_of bytes) bytes → (((byte == 13) && begins_with 10 bytes) ≡ true → Filed (lines_of bytes) (byte ∷ bytes)) → Filed (if ends then [] ∷ lines_of bytes else if returns then lines_of bytes else with_byte byte (lines_of bytes)) (byte ∷ bytes)
sound_by true returns byte bytes e f filed two =
    let is : byte ≡ 10 = grind (arith, e) in
    fed [] bytes (byte ∷ bytes) refl refl (ap (λ (b : ℕ). b ∷ bytes) is) filed
sound_by false true byte bytes e f filed two = two f
sound_by false false byte bytes e f filed two = more byte (lines_of bytes) bytes e f filed

no_feed_behind : (byte : ℕ) → ((byte == 13) && false) ≡ true → ⊥
no_feed_behind byte f = grind (arith, f)

sound : (bytes : List ℕ) → Filed (lines_of bytes) bytes
sound [] = nothing
sound (byte ∷ []) = sound_by (byte == 10) ((byte == 13) && false) byte [] refl refl nothing (λ f. absurd (no_feed_behind byte f))
sound (byte ∷ next ∷ rest) = sound_by (byte == 10) ((byte == 13) && (next == 10)) byte (next ∷ rest) refl refl (sound (next ∷ rest)) (λ f. return_more byte next rest f (sound rest))

pub lines_are_filed : LinesAreFiled
lines_are_filed bytes lines = (complete lines bytes, λ e. subst (λ (ls : List (List ℕ)). Filed ls bytes) e (sound bytes))
