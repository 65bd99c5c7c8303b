-- Lexemes whose roles are a list of parts, cut into these.
use Rattle.std.proofs.Common.{◌≡◌, true, List, [], ◌∷◌, ◌++◌, Some, refl, ap, ◌∙◌}
use Rattle.std.proofs.lemmas.List.{map-append}
use Rattle.px_words.specs.declared.lexeme.Lexeme.{Lexeme}
use Rattle.px_words.specs.declared.lexeme.Word.{Word}
use Rattle.px_words.specs.Lexemes.{is_name}
use Rattle.px_accept.specs.declared.role.Role.{Role}
use Rattle.px_accept.specs.declared.role.Role.TheVariants as r
use Rattle.px_accept.specs.declared.role.Spelling.{Spelling}
use Rattle.px_words.specs.Roles.{role_of, role_at, roles_of}
use Rattle.px_parse.proofs.RolesOf.{only_word, word_is, name_is}

pub roles_join : (xs ys : List Lexeme) → roles_of (xs ++ ys) ≡ roles_of xs ++ roles_of ys
roles_join xs ys = map-append role_at xs ys

-- a first lexeme of this role, and the rest
pub record First (t : Role) (b : List Role) (xs : List Lexeme) : Type 0 where
  pub x : Lexeme
  pub rest : List Lexeme
  pub same : xs ≡ x ∷ rest
  pub role : role_of x.word ≡ t
  pub roles : roles_of rest ≡ b

pub first : (t : Role) (b : List Role) (xs : List Lexeme) → roles_of xs ≡ t ∷ b → First t b xs
first t b [] h = cc
first t b (x ∷ xs) h = record { x = x; rest = xs; same = refl; role = cc; roles = cc }

-- a front with these roles, and the rest
pub record Cut (a b : List Role) (xs : List Lexeme) : Type 0 where
  pub front : List Lexeme
  pub rest : List Lexeme
  pub same : xs ≡ front ++ rest
  pub fronts : roles_of front ≡ a
  pub roles : roles_of rest ≡ b

pub cut : (a b : List Role) (xs : List Lexeme) → roles_of xs ≡ a ++ b → Cut a b xs
cut [] b xs h = record { front = []; rest = xs; same = refl; fronts = refl; roles = h }
cut (t ∷ a) b [] h = cc
cut (t ∷ a) b (x ∷ xs) h =
    let c = cut a b xs (cc) in
    record { front = x ∷ c.front; rest = c.rest; same = ap (λ zs. x ∷ zs) c.same; fronts = join (role_of x.word) t (roles_of c.front) a (cc) c.fronts; roles = c.roles }
  where
    join : (u t : Role) (us a : List Role) → u ≡ t → us ≡ a → u ∷ us ≡ t ∷ a
    join u t us a h i = cc

pub none : (xs : List Lexeme) → roles_of xs ≡ [] → xs ≡ []
none [] h = refl
none (x ∷ xs) h = cc

-- a first lexeme of this word, and the rest
pub record Key (word : Word) (b : List Role) (xs : List Lexeme) : Type 0 where
  pub x : Lexeme
  pub rest : List Lexeme
  pub same : xs ≡ x ∷ rest
  pub is : x.word ≡ word
  pub roles : roles_of rest ≡ b

pub key : (t : Role) (word : Word) (b : List Role) (xs : List Lexeme) → only_word t ≡ Some word → roles_of xs ≡ t ∷ b → Key word b xs
key t word b xs o h = let f = first t b xs h in record { x = f.x; rest = f.rest; same = f.same; is = word_is f.x.word word t o f.role; roles = f.roles }

-- the last one
pub record Final (word : Word) (xs : List Lexeme) : Type 0 where
  pub x : Lexeme
  pub same : xs ≡ x ∷ []
  pub is : x.word ≡ word

pub final : (t : Role) (word : Word) (xs : List Lexeme) → only_word t ≡ Some word → roles_of xs ≡ t ∷ [] → Final word xs
final t word xs o h =
    let k = key t word [] xs o h in
    record { x = k.x; same = k.same ∙ ap (λ zs. k.x ∷ zs) (none k.rest k.roles); is = k.is }

-- a first lexeme that is a name, and the rest
pub record Named (b : List Role) (xs : List Lexeme) : Type 0 where
  pub x : Lexeme
  pub rest : List Lexeme
  pub same : xs ≡ x ∷ rest
  pub is : is_name x.word ≡ true
  pub roles : roles_of rest ≡ b

pub named : (n : Spelling) (b : List Role) (xs : List Lexeme) → roles_of xs ≡ r.Name n ∷ b → Named b xs
named n b xs h = let f = first (r.Name n) b xs h in record { x = f.x; rest = f.rest; same = f.same; is = name_is f.x.word n f.role; roles = f.roles }
