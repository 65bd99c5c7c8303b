-- What each token is to the grammar.
use Rattle.std.specs.Prelude.{ℕ, Bool, true, false, ◌+◌, if◌then◌else◌, List, [], ◌∷◌, codes}
use Rattle.std.specs.Str.{bytes_eq}
use Rattle.px_lex.specs.declared.token.TokenKind.{TokenKind}
use Rattle.px_lex.specs.declared.token.TokenKind.TheVariants as k
use Rattle.px_lex.specs.declared.token.Token.{Token}
use Rattle.px_lex.specs.Spelling.{spelled}
use Rattle.px_words.specs.declared.lexeme.Word.{Word}
use Rattle.px_words.specs.declared.lexeme.Word.TheVariants as w
use Rattle.px_words.specs.declared.lexeme.Lexeme.{Lexeme}

-- the keywords that the grammar uses
abbrev pub keywords : List (List ℕ × Word)
keywords =
    (codes "public", w.Public) ∷ (codes "private", w.Private) ∷ (codes "class", w.Class) ∷ (codes "int", w.Int) ∷ (codes "long", w.Long)
    ∷ (codes "boolean", w.Boolean) ∷ (codes "void", w.Void) ∷ (codes "throws", w.Throws) ∷ (codes "if", w.If) ∷ (codes "else", w.Else)
    ∷ (codes "while", w.While) ∷ (codes "for", w.For) ∷ (codes "return", w.Return) ∷ (codes "new", w.New) ∷ (codes "this", w.This)
    ∷ (codes "true", w.True) ∷ (codes "false", w.False) ∷ (codes "null", w.Null) ∷ []

-- the identifiers that it knows by their spelling
abbrev pub known_names : List (List ℕ × Word)
known_names =
    (codes "CREATE", w.Create) ∷ (codes "TABLE", w.Table) ∷ (codes "LONG", w.ColumnLong) ∷ (codes "TEXT", w.ColumnText) ∷ (codes "System", w.System)
    ∷ (codes "out", w.Out) ∷ (codes "println", w.Println) ∷ (codes "SQLException", w.SqlException) ∷ (codes "String", w.StringType) ∷ (codes "ResultSet", w.ResultSet)
    ∷ (codes "Db", w.Db) ∷ []

-- the signs
abbrev pub sign_words : List (List ℕ × Word)
sign_words =
    (codes "{", w.OpenBrace) ∷ (codes "}", w.CloseBrace) ∷ (codes "(", w.Open) ∷ (codes ")", w.Close) ∷ (codes "[", w.OpenBracket)
    ∷ (codes "]", w.CloseBracket) ∷ (codes ",", w.Comma) ∷ (codes ";", w.Semicolon) ∷ (codes ".", w.Dot) ∷ (codes "=", w.Assign)
    ∷ (codes "+=", w.PlusAssign) ∷ (codes "-=", w.MinusAssign) ∷ (codes "*=", w.TimesAssign) ∷ (codes "/=", w.OverAssign) ∷ (codes "%=", w.RestAssign)
    ∷ (codes "&=", w.AndAssign) ∷ (codes "|=", w.OrAssign) ∷ (codes "^=", w.XorAssign) ∷ (codes "<<=", w.ShlAssign) ∷ (codes ">>=", w.ShrAssign)
    ∷ (codes ">>>=", w.UshrAssign) ∷ (codes "++", w.Increment) ∷ (codes "--", w.Decrement) ∷ (codes "+", w.Plus) ∷ (codes "-", w.Minus)
    ∷ (codes "*", w.Times) ∷ (codes "/", w.Over) ∷ (codes "%", w.Rest) ∷ (codes "&", w.And) ∷ (codes "|", w.Or)
    ∷ (codes "^", w.Xor) ∷ (codes "<<", w.Shl) ∷ (codes ">>", w.Shr) ∷ (codes ">>>", w.Ushr) ∷ (codes "<", w.Less)
    ∷ (codes "<=", w.AtMost) ∷ (codes ">", w.More) ∷ (codes ">=", w.AtLeast) ∷ (codes "==", w.Equal) ∷ (codes "!=", w.Unequal)
    ∷ (codes "&&", w.Both) ∷ (codes "||", w.Either) ∷ (codes "!", w.Not) ∷ (codes "~", w.Inv) ∷ []

-- the word with this spelling, or another where there is none
abbrev pub word_among : List (List ℕ × Word) → List ℕ → Word → Word
word_among [] spelling other = other
word_among (p ∷ ps) spelling other = if bytes_eq p.0 spelling then p.1 else word_among ps spelling other

abbrev pub word_of : TokenKind → List ℕ → Word
word_of k.Id spelling = word_among known_names spelling w.Name
word_of k.Key spelling = word_among keywords spelling w.Unused
word_of k.Number spelling = w.Number
word_of k.Str spelling = w.Text
word_of k.Sign spelling = word_among sign_words spelling w.Bad
word_of k.Bad spelling = w.Bad
word_of k.End spelling = w.End

-- the token with this number
abbrev pub lexeme_of : List ℕ → ℕ → Token → Lexeme
lexeme_of bytes number token =
    record { word = word_of token.kind (spelled bytes token.from token.to); from = token.from; to = token.to; token = number }

-- the tokens from this number on
abbrev pub lexemes_from : List ℕ → ℕ → List Token → List Lexeme
lexemes_from bytes number [] = []
lexemes_from bytes number (token ∷ tokens) = lexeme_of bytes number token ∷ lexemes_from bytes (number + 1) tokens

abbrev pub lexemes_of : List ℕ → List Token → List Lexeme
lexemes_of bytes tokens = lexemes_from bytes 0 tokens

-- the word is an identifier
abbrev pub is_name : Word → Bool
is_name w.Name = true
is_name w.Create = true
is_name w.Table = true
is_name w.ColumnLong = true
is_name w.ColumnText = true
is_name w.System = true
is_name w.Out = true
is_name w.Println = true
is_name w.SqlException = true
is_name w.StringType = true
is_name w.ResultSet = true
is_name w.Db = true
is_name _ = false
