-- What an expression begins with, before an expression in it is read, and how reading goes on behind it.
use Rattle.std.specs.Prelude.{◌≡◌, ℕ, ◌+◌, List, Option, Some, None, Result, Ok, Err}
use Rattle.px_words.specs.declared.lexeme.Word.{Word}
use Rattle.px_words.specs.declared.lexeme.Word.TheVariants as w
use Rattle.px_tree.specs.declared.Expr.{Expr}
use Rattle.px_parse.specs.declared.heads.Head.{Head}
use Rattle.px_parse.specs.declared.heads.Head.TheVariants as head
use Rattle.px_parse.specs.declared.heads.Prefix.{Prefix}
use Rattle.px_parse.specs.declared.heads.Suffix.{Suffix}
use Rattle.px_parse.specs.declared.heads.Suffix.TheVariants as suffix
use Rattle.px_parse.specs.declared.heads.Operator.{Operator}
use Rattle.px_parse.specs.declared.error.ReadError.{ReadError}
use Rattle.px_parse.specs.Reading.{Read, Reads, ◌>>=◌, ◌>>◌, pure, expect, own_call, member_call, Fails}
use Rattle.px_parse.specs.Trees.{group_of, field_of, element_of, array_of, prefix_of, binary_of}
use Rattle.px_words.specs.Words.{level}

-- Reading the whole is reading what is behind the part that was read, unless memory ran out.
abbrev pub Leads : {A B : Type 0} → Read B → Result A ReadError → (A → Read B) → Type 0
Leads whole (Ok part) behind = whole ≡ behind part
Leads whole (Err e) behind = Fails e whole

-- an expression and what closes it
unfoldable pub closed : Reads Expr → Word → Reads Expr
closed inner word = do
  e ← inner
  expect word
  pure e

abbrev pub behind_head : List ℕ → Reads Expr → Head → Reads Expr
behind_head source inner (head.Whole e) = pure e
behind_head source inner (head.Group opening) = closed inner w.Close >>= (λ e. pure (group_of opening e))
behind_head source inner (head.Call name) = own_call source inner name
behind_head source inner (head.Array new base) = closed inner w.CloseBracket >>= (λ size. pure (array_of source new base size))

-- behind a prefix, or without one
abbrev pub behind_prefix : Reads Expr → Reads Expr → Option Prefix → Reads Expr
behind_prefix again without (Some p) = again >>= (λ e. pure (prefix_of p.sign p.first e))
behind_prefix again without None = without

abbrev pub behind_suffix : List ℕ → Reads Expr → Expr → Suffix → Reads Expr
behind_suffix source inner of (suffix.Field name) = pure (field_of source of name)
behind_suffix source inner of (suffix.Call name) = member_call source inner of name
behind_suffix source inner of suffix.Index = closed inner w.CloseBracket >>= (λ index. pure (element_of of index))

-- behind a suffix, and what follows it
abbrev pub behind_suffixes : List ℕ → Reads Expr → (Expr → Reads Expr) → Expr → Option Suffix → Reads Expr
behind_suffixes source inner more of (Some s) = behind_suffix source inner of s >>= more
behind_suffixes source inner more of None = pure of

abbrev pub behind_operator : Reads Expr → (ℕ → Expr → Reads Expr) → ℕ → Expr → Option Operator → Reads Expr
behind_operator right more least left (Some o) = do
  first ← right
  whole ← more (level o.sign + 1) first
  more least (binary_of o.sign o.at left whole)
behind_operator right more least left None = pure left
