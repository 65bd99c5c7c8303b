-- `System . out . println (`: what a move pushes stands for what comes next.
use Rattle.std.proofs.Common.{◌≡◌, ◌≢◌, false, List, [], ◌∷◌, ◌++◌, refl, append_assoc}
use Rattle.px_accept.specs.declared.role.Spelling.{Spelling}
use Rattle.px_accept.specs.declared.role.Spelling.TheVariants.{Create, Table, Column, System, Out, Println, SqlException, Plain}
use Rattle.px_accept.specs.declared.role.Role.{Role}
use Rattle.px_accept.specs.declared.role.Role.TheVariants.{Name, Open, Close, Semicolon, Dot}
use Rattle.px_accept.specs.declared.symbol.Position.TheVariants.{Alone}
use Rattle.px_accept.specs.declared.symbol.Seen.TheVariants.{AName, AField}
use Rattle.px_accept.specs.declared.symbol.Symbol.TheVariants.{SystemFirst, SystemDot, SystemOut, SystemOutDot, Printing, Simple}
use Rattle.px_accept.specs.Moves.{Move, Refuse, Pass, Push}
use Rattle.px_accept.specs.SimpleMoves.{simple_field, simple_name}
use Rattle.px_accept.specs.StatementMoves.{system_first, system_named, system_dot, system_out, out_named, system_out_dot, printing}
use Rattle.px_accept.specs.Grammar as g
use Rattle.px_accept.specs.Grammar.{Spelled, begins_print}
use Rattle.px_accept.proofs.Languages.{Sound}
use Rattle.px_accept.proofs.SoundSimple.{field_sound, name_sound}
use Rattle.px_accept.proofs.SoundItems.{fine_name, field_of}

system_along : (m : Move) (t : Role) → m ≢ Pass → t ≢ Dot → Sound m (Simple AName Alone 1) t → Sound m SystemFirst t
system_along Refuse t n d h = tt
system_along Pass t n d h = absurd (n refl)
system_along (Push xs) t n d h = λ zs r c. h zs r c (Name System ∷ []) (g.name System refl) (fine_name System t d zs)

pub system_first_sound : (t : Role) → Sound (system_first t) SystemFirst t
system_first_sound Dot = λ zs r c. c
system_first_sound t = system_along (simple_name Alone 1 t) t (λ e. cc) (λ e. cc) (name_sound Alone 1 t)

system_named_sound : (s : Spelling) → Sound (system_named s) SystemDot (Name s)
system_named_sound Out = λ zs r c. c
system_named_sound Create = λ zs r c. c _ (field_of System Create) refl
system_named_sound Table = λ zs r c. c _ (field_of System Table) refl
system_named_sound Column = λ zs r c. c _ (field_of System Column) refl
system_named_sound System = λ zs r c. c _ (field_of System System) refl
system_named_sound Println = λ zs r c. c _ (field_of System Println) refl
system_named_sound SqlException = λ zs r c. c _ (field_of System SqlException) refl
system_named_sound Plain = λ zs r c. c _ (field_of System Plain) refl

pub system_dot_sound : (t : Role) → Sound (system_dot t) SystemDot t
system_dot_sound (Name s) = system_named_sound s
system_dot_sound t = tt

out_along : (m : Move) (t : Role) → m ≢ Pass → ((zs : List Role) → begins_print (Name System ∷ Dot ∷ Name Out ∷ t ∷ zs) ≡ false) → Sound m (Simple AField Alone 2) t → Sound m SystemOut t
out_along Refuse t n d h = tt
out_along Pass t n d h = absurd (n refl)
out_along (Push xs) t n d h = λ zs r c. h zs r c (Name System ∷ Dot ∷ Name Out ∷ []) (field_of System Out) (d zs)

pub system_out_sound : (t : Role) → Sound (system_out t) SystemOut t
system_out_sound Dot = λ zs r c. c
system_out_sound t = out_along (simple_field Alone 2 t) t (λ e. cc) (λ zs. refl) (field_sound Alone 2 t)

out_field : (s : Spelling) → Spelled (g.Postfix g.Field) (Name System ∷ Dot ∷ Name Out ∷ Dot ∷ Name s ∷ [])
out_field s = g.dot g.Field s (Name System ∷ Dot ∷ Name Out ∷ []) refl (field_of System Out)

out_named_sound : (s : Spelling) → Sound (out_named s) SystemOutDot (Name s)
out_named_sound Println = λ zs r c. c
out_named_sound Create = λ zs r c. c _ (out_field Create) refl
out_named_sound Table = λ zs r c. c _ (out_field Table) refl
out_named_sound Column = λ zs r c. c _ (out_field Column) refl
out_named_sound System = λ zs r c. c _ (out_field System) refl
out_named_sound Out = λ zs r c. c _ (out_field Out) refl
out_named_sound SqlException = λ zs r c. c _ (out_field SqlException) refl
out_named_sound Plain = λ zs r c. c _ (out_field Plain) refl

pub system_out_dot_sound : (t : Role) → Sound (system_out_dot t) SystemOutDot t
system_out_dot_sound (Name s) = out_named_sound s
system_out_dot_sound t = tt

print_along : (m : Move) (t : Role) → m ≢ Pass → ((zs : List Role) → begins_print (Name System ∷ Dot ∷ Name Out ∷ Dot ∷ Name Println ∷ t ∷ zs) ≡ false) → Sound m (Simple AField Alone 3) t → Sound m Printing t
print_along Refuse t n d h = tt
print_along Pass t n d h = absurd (n refl)
print_along (Push xs) t n d h = λ zs r c. h zs r c (Name System ∷ Dot ∷ Name Out ∷ Dot ∷ Name Println ∷ []) (out_field Println) (d zs)

pub printing_sound : (t : Role) → Sound (printing t) Printing t
printing_sound Open = λ zs r c. record { ends_open = false; roles = Name System ∷ Dot ∷ Name Out ∷ Dot ∷ Name Println ∷ Open ∷ c.1.roles ++ Close ∷ Semicolon ∷ []; same = rw (c.1.same, c.2.1, c.2.2.1, c.2.2.2) (simp append_assoc); spelled = g.print c.1.roles refl c.1.spelled }
printing_sound t = print_along (simple_field Alone 3 t) t (λ e. cc) (λ zs. refl) (field_sound Alone 3 t)
