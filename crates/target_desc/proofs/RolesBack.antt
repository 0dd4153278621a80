-- The words of roles and effects are read back.
use Rattle.std.proofs.Common.{◌≡◌, ℕ, ◌<◌, List, [], ◌∷◌, ◌++◌, append_assoc, length, Some, None, Bool, true, false, refl, ap, sym, ◌∙◌, not, map, arith}
use Rattle.std.specs.Prelude.{◌==◌, ◌&&◌, ◌||◌, nat_lt, codes, Option, option_map, if◌then◌else◌}
use Rattle.std.proofs.Math.Path.{subst}
use Rattle.std.specs.List.{list_all, before_first, after_first}
use Rattle.std.specs.Fmt.{decimal, digits}
use Rattle.std.proofs.lemmas.Bool.{ltb-true, lt-ltb, eqb-true}
use Rattle.target_base.specs.declared.types.ClassId.{ClassId}
use Rattle.target_base.specs.declared.types.Reg.{Reg}
use Rattle.target_base.specs.declared.types.Effect.{Effect}
use Rattle.target_base.specs.declared.types.Effect.TheVariants as effects
use Rattle.target_base.specs.declared.types.Role.{Role}
use Rattle.target_base.specs.declared.types.Role.TheVariants as roles
use Rattle.target_base.specs.declared.types.OpaqueKind.TheVariants as kinds
use Rattle.target_base.specs.declared.types.UnitDesc.{UnitDesc}
use Rattle.target_base.specs.declared.types.RegDesc.{RegDesc}
use Rattle.target_base.specs.declared.types.ClassDesc.{ClassDesc}
use Rattle.target_base.specs.Names.{is_name, are_distinct_names}
use Rattle.target_base.specs.Roles.{is_implicit, role_known, has_shape, shape_fits, explicit_shape, tie_fits, opaque_tie_fits, scale_fits, is_scale, known_fit, roles_fit}
use Rattle.target_base.proofs.Tests.{first_of_both, second_of_both}
use Rattle.target_desc.specs.declared.raw.NamedRole.TheVariants as named
use Rattle.target_desc.specs.declared.raw.RawRole.{RawRole}
use Rattle.target_desc.specs.declared.raw.RawRole.TheVariants as raw_roles
use Rattle.target_desc.specs.declared.names.NameTables.{NameTables}
use Rattle.target_desc.specs.Text.{is_filled, is_number, number}
use Rattle.target_desc.specs.Words.{meaning_in, effect_words, named_role_words}
use Rattle.target_desc.specs.Forms.{named_role, tie_digits, tied_role, either_role, role_of, roles_of, stands_anywhere, may_have}
use Rattle.target_desc.specs.Resolving.{class_named, reg_named, role_with, role_named, roles_named}
use Rattle.target_desc.specs.Printed.{class_name, reg_name, tie_word, role_word, effect_word}
use Rattle.target_desc.proofs.Grown.{both, all_kept, all_join}
use Rattle.target_desc.proofs.Spaced.{is_word, lacks, joined_word, cut_before, cut_after}
use Rattle.target_desc.proofs.Digits.{name_is_word, decimal_is_word, decimal_is_number, decimal_back, decimal_lacks}
use Rattle.target_desc.proofs.NamedBack.{name_there, place_back}

-- no role of the shape of a known effect is a value of any kind
abbrev is_no_value : Role → Bool
is_no_value (roles.Value k) = false
is_no_value _ = true

abbrev rejects : Option ClassId → List (Role → Bool) → Bool
rejects k tests = list_all (λ test. not (test (roles.Value k))) tests

abbrev shape_rejects : Option ClassId → Option (List (Role → Bool)) → Bool
shape_rejects k None = true
shape_rejects k (Some tests) = rejects k tests

each_rejects : (k : Option ClassId) (e : Effect) → shape_rejects k (explicit_shape e) ≡ true
each_rejects k effects.Copy = refl
each_rejects k _ = refl

implicit_no_value : (r : Role) → is_implicit r ≡ true → is_no_value r ≡ true
implicit_no_value (roles.Value k) h = absurd (cc)
implicit_no_value _ h = refl

passed_no_value : (test : Role → Bool) (r : Role) → ((k : Option ClassId) → not (test (roles.Value k)) ≡ true) → test r ≡ true → is_no_value r ≡ true
passed_no_value test (roles.Value k) f h = absurd (let e = ap not h in let g = f k in cc)
passed_no_value test _ f h = refl

shaped_no_values : (tests : List (Role → Bool)) (rs : List Role) → ((k : Option ClassId) → rejects k tests ≡ true) → has_shape tests rs ≡ true → list_all is_no_value rs ≡ true
shaped_no_values [] rs f h = all_kept is_implicit is_no_value rs implicit_no_value h
shaped_no_values (test ∷ tests) [] f h = absurd (cc)
shaped_no_values (test ∷ tests) (r ∷ rs) f h = both _ _ (passed_no_value test r (λ k. first_of_both _ _ (f k)) (first_of_both _ _ h)) (shaped_no_values tests rs (λ k. second_of_both _ _ (f k)) (second_of_both _ _ h))

no_values : (shape : Option (List (Role → Bool))) (rs : List Role) → ((k : Option ClassId) → shape_rejects k shape ≡ true) → shape_fits shape rs ≡ true → list_all is_no_value rs ≡ true
no_values None rs f h = absurd (cc)
no_values (Some tests) rs f h = shaped_no_values tests rs f h

some_role : (e : Effect) → shape_fits (explicit_shape e) [] ≡ false
some_role effects.Copy = refl
some_role _ = refl

-- a tied role's number is one that is read back
abbrev pub has_small_tie : Role → Bool
has_small_tie (roles.Tied k n) = nat_lt n 255
has_small_tie _ = true

known_tie : (rs : List Role) (r : Role) → tie_fits rs r ≡ true → has_small_tie r ≡ true
known_tie rs (roles.Tied k n) h = let zero : n ≡ 0 = eqb-true n 0 (first_of_both _ _ h) in lt-ltb n 255 (omega arith)
known_tie rs _ h = refl

opaque_tie : (classes : List ClassDesc) (rs : List Role) (r : Role) → opaque_tie_fits classes rs r ≡ true → has_small_tie r ≡ true
opaque_tie classes rs (roles.Tied k n) h = first_of_both _ _ h
opaque_tie classes rs _ h = refl

known_shape : (units : List UnitDesc) (regs : List RegDesc) (classes : List ClassDesc) (e : Effect) (rs : List Role) → known_fit units regs classes e rs ≡ true → shape_fits (explicit_shape e) rs ≡ true
known_shape units regs classes e rs h = first_of_both _ _ (first_of_both _ _ (first_of_both _ _ (first_of_both _ _ (first_of_both _ _ h))))

known_ties : (units : List UnitDesc) (regs : List RegDesc) (classes : List ClassDesc) (e : Effect) (rs : List Role) → known_fit units regs classes e rs ≡ true → list_all (tie_fits rs) rs ≡ true
known_ties units regs classes e rs h = second_of_both _ _ (second_of_both _ _ (first_of_both _ _ (first_of_both _ _ (first_of_both _ _ (first_of_both _ _ h)))))

-- the numbers of tied roles are small
pub small_ties : (units : List UnitDesc) (regs : List RegDesc) (classes : List ClassDesc) (e : Effect) (rs : List Role) → roles_fit units regs classes e rs ≡ true → list_all has_small_tie rs ≡ true
small_ties units regs classes (effects.Opaque kind) rs h = all_kept (opaque_tie_fits classes rs) has_small_tie rs (opaque_tie classes rs) (second_of_both _ _ (first_of_both _ _ h))
small_ties units regs classes e rs h = all_kept (tie_fits rs) has_small_tie rs (known_tie rs) (known_ties units regs classes e rs h)

-- an effect's word means the effect
abbrev EffectBack : Effect → Type 0
EffectBack e = (meaning_in effect_words (effect_word e) ≡ Some e) × (is_word (effect_word e) ≡ true)

module _ (P : ℕ → Type 0) where
  pick : (s : ℕ) → P 1 → P 2 → P 4 → P 8 → P 16 → (a b c d e : Bool) → (s == 1) ≡ a → (s == 2) ≡ b → (s == 4) ≡ c → (s == 8) ≡ d → (s == 16) ≡ e → (a || b || c || d || e) ≡ true → P s
  pick s p q r t u true b c d e ea eb ec ed ee h = subst P (sym (eqb-true s 1 ea)) p
  pick s p q r t u false true c d e ea eb ec ed ee h = subst P (sym (eqb-true s 2 eb)) q
  pick s p q r t u false false true d e ea eb ec ed ee h = subst P (sym (eqb-true s 4 ec)) r
  pick s p q r t u false false false true e ea eb ec ed ee h = subst P (sym (eqb-true s 8 ed)) t
  pick s p q r t u false false false false true ea eb ec ed ee h = subst P (sym (eqb-true s 16 ee)) u
  pick s p q r t u false false false false false ea eb ec ed ee h = absurd (cc)

  each_scale : (s : ℕ) → P 1 → P 2 → P 4 → P 8 → P 16 → is_scale s ≡ true → P s
  each_scale s p q r t u h = pick s p q r t u (s == 1) (s == 2) (s == 4) (s == 8) (s == 16) refl refl refl refl refl h

pub effect_back : (units : List UnitDesc) (regs : List RegDesc) (classes : List ClassDesc) (e : Effect) (rs : List Role) → roles_fit units regs classes e rs ≡ true → scale_fits e ≡ true → EffectBack e
unfolding digits
effect_back units regs classes effects.Copy rs h g = absurd (cc)
effect_back units regs classes effects.Phi rs h g = absurd (cc)
effect_back units regs classes effects.ImplicitDef rs h g = absurd (cc)
effect_back units regs classes effects.RegSequence rs h g = absurd (cc)
effect_back units regs classes effects.InsertSubreg rs h g = absurd (cc)
effect_back units regs classes (effects.Load s) rs h g = each_scale (λ n. EffectBack (effects.Load n)) s (refl, refl) (refl, refl) (refl, refl) (refl, refl) (refl, refl) g
effect_back units regs classes (effects.Store s) rs h g = each_scale (λ n. EffectBack (effects.Store n)) s (refl, refl) (refl, refl) (refl, refl) (refl, refl) (refl, refl) g
effect_back units regs classes (effects.Opaque kinds.Plain) rs h g = (refl, refl)
effect_back units regs classes (effects.Opaque kinds.Branch) rs h g = (refl, refl)
effect_back units regs classes (effects.Opaque kinds.Call) rs h g = (refl, refl)
effect_back units regs classes (effects.Opaque kinds.Return) rs h g = (refl, refl)
effect_back units regs classes _ rs h g = (refl, refl)

-- a role as its word names it
abbrev pub raw_of : List ClassDesc → List RegDesc → Role → RawRole
raw_of classes regs (roles.Def k) = raw_roles.Named named.Def (class_name classes k)
raw_of classes regs (roles.Early k) = raw_roles.Named named.Early (class_name classes k)
raw_of classes regs (roles.Read k) = raw_roles.Named named.Read (class_name classes k)
raw_of classes regs (roles.Tied k n) = if n == 0 then raw_roles.Named named.Tied (class_name classes k) else raw_roles.Tied n (class_name classes k)
raw_of classes regs (roles.Address k) = raw_roles.Named named.Address (class_name classes k)
raw_of classes regs (roles.Value (Some k)) = raw_roles.Named named.Value (class_name classes k)
raw_of classes regs (roles.ImpDef r) = raw_roles.Named named.ImpDef (reg_name regs r)
raw_of classes regs (roles.ImpRead r) = raw_roles.Named named.ImpRead (reg_name regs r)
raw_of classes regs r = raw_roles.Plain r

-- roles of a known effect stand at each
module _ (classes : List ClassDesc) (regs : List RegDesc) where
  role_anywhere : (rs : List Role) (r : Role) → is_no_value r ≡ true → tie_fits rs r ≡ true → stands_anywhere (raw_of classes regs r) ≡ true
  role_anywhere rs (roles.Value k) h g = absurd (cc)
  role_anywhere rs (roles.Tied k n) h g = let zero : (n == 0) ≡ true = first_of_both _ _ g in rw zero refl
  role_anywhere rs _ h g = refl

  all_anywhere : (rs xs : List Role) → list_all is_no_value xs ≡ true → list_all (tie_fits rs) xs ≡ true → list_all stands_anywhere (map (raw_of classes regs) xs) ≡ true
  all_anywhere rs [] h g = refl
  all_anywhere rs (x ∷ xs) h g = both _ _ (role_anywhere rs x (first_of_both _ _ h) (first_of_both _ _ g)) (all_anywhere rs xs (second_of_both _ _ h) (second_of_both _ _ g))

  some_roles : (e : Effect) (rs : List Role) → shape_fits (explicit_shape e) rs ≡ true → is_filled (map (raw_of classes regs) rs) ≡ true
  some_roles e [] h = absurd (let f = some_role e in cc)
  some_roles e (r ∷ rs) h = refl

  known_may : (units : List UnitDesc) (e : Effect) (rs : List Role) → known_fit units regs classes e rs ≡ true → (is_filled (map (raw_of classes regs) rs) && list_all stands_anywhere (map (raw_of classes regs) rs)) ≡ true
  known_may units e rs h =
      let shape = known_shape units regs classes e rs h in
      both _ _ (some_roles e rs shape) (all_anywhere rs rs (no_values (explicit_shape e) rs (λ k. each_rejects k e) shape) (known_ties units regs classes e rs h))

  -- the effect of a declared opcode may have its roles
  pub roles_may : (units : List UnitDesc) (e : Effect) (rs : List Role) → roles_fit units regs classes e rs ≡ true → may_have e (map (raw_of classes regs) rs) ≡ true
  roles_may units (effects.Opaque kind) rs h = refl
  roles_may units e rs h = known_may units e rs h

-- a role `tied/N:K` is read
either_way : {X : Type 0} (x : X) (t : Bool) → (if t then x else x) ≡ x
either_way x true = refl
either_way x false = refl

no_named : (w head : List ℕ) → before_first (λ b. b == 58) w ≡ head → meaning_in named_role_words head ≡ None → named_role w ≡ None
no_named w head e m =
    let none : meaning_in named_role_words (before_first (λ b. b == 58) w) ≡ None = ap (meaning_in named_role_words) e ∙ m in
    rw none (either_way None (is_name (after_first (λ b. b == 58) w)))

some_tied : (w head digits name : List ℕ) (n : ℕ) → before_first (λ b. b == 58) w ≡ head → after_first (λ b. b == 58) w ≡ name → tie_digits head ≡ digits → is_number digits ≡ true → number digits ≡ n → is_name name ≡ true → tied_role w ≡ Some (raw_roles.Tied n name)
some_tied w head digits name n a b c d e f = rw (a, b, c, d, e, f) refl

numbered_read : (n : ℕ) (name : List ℕ) → n < 255 → is_name name ≡ true → role_of (codes "tied/" ++ decimal n ++ codes ":" ++ name) ≡ Some (raw_roles.Tied n name)
unfolding role_of
numbered_read n name few good =
    let head = codes "tied/" ++ decimal n in
    let w = head ++ 58 ∷ name in
    let lack : lacks 58 head ≡ true = all_join (λ b. not (b == 58)) (codes "tied/") (decimal n) refl (decimal_lacks 58 n refl few) in
    let front : before_first (λ b. b == 58) w ≡ head = cut_before 58 head name refl lack in
    let back : after_first (λ b. b == 58) w ≡ name = cut_after 58 head name refl lack in
    let named : named_role w ≡ None = no_named w head front refl in
    let tied : tied_role w ≡ Some (raw_roles.Tied n name) = some_tied w head (decimal n) name n front back refl (decimal_is_number n few) (decimal_back n few) good in
    ap role_of (append_assoc head (codes ":") name) ∙ (λ i. either_role None (either_role (named i) (tied i)))

module _ (names : NameTables) (classes : List ClassDesc) (regs : List RegDesc)
    (hc : names.classes ≡ map (λ c. c.name) classes) (hr : names.regs ≡ map (λ r. r.name) regs)
    (nc : list_all is_name (map (λ c. c.name) classes) ≡ true) (nr : list_all is_name (map (λ r. r.name) regs) ≡ true)
    (dc : are_distinct_names (map (λ c. c.name) classes) ≡ true) (dr : are_distinct_names (map (λ r. r.name) regs) ≡ true) where
  abbrev Known : Role → Type 0
  Known r = role_known (length classes) (length regs) r ≡ true

  class_is_name : (k : ClassId) → nat_lt k.0 (length classes) ≡ true → is_name (class_name classes k) ≡ true
  class_is_name k h = name_there (λ d. d.name) classes k.0 (ltb-true k.0 (length classes) h) nc

  reg_is_name : (r : Reg) → nat_lt r.0 (length regs) ≡ true → is_name (reg_name regs r) ≡ true
  reg_is_name r h = name_there (λ d. d.name) regs r.0 (ltb-true r.0 (length regs) h) nr

  class_found : (k : ClassId) → nat_lt k.0 (length classes) ≡ true → class_named names.classes (class_name classes k) ≡ Some k
  class_found k h = let found = place_back (λ d. d.name) classes k.0 (ltb-true k.0 (length classes) h) dc in rw (hc, found) refl

  reg_found : (r : Reg) → nat_lt r.0 (length regs) ≡ true → reg_named names.regs (reg_name regs r) ≡ Some r
  reg_found r h = let found = place_back (λ d. d.name) regs r.0 (ltb-true r.0 (length regs) h) dr in rw (hr, found) refl

  tied_read : (n : ℕ) (name : List ℕ) (t : Bool) → (n == 0) ≡ t → n < 255 → is_name name ≡ true → role_of (tie_word n ++ name) ≡ Some (if n == 0 then raw_roles.Named named.Tied name else raw_roles.Tied n name)
  unfolding role_of
  tied_read n name true e few h = rw (e, h) refl
  tied_read n name false e few h = rw e (numbered_read n name few h)

  word_read : (r : Role) → Known r → has_small_tie r ≡ true → role_of (role_word classes regs r) ≡ Some (raw_of classes regs r)
  unfolding role_of
  word_read (roles.Def k) h t = rw (class_is_name k h) refl
  word_read (roles.Early k) h t = rw (class_is_name k h) refl
  word_read (roles.Read k) h t = rw (class_is_name k h) refl
  word_read (roles.Tied k n) h t = tied_read n (class_name classes k) (n == 0) refl (ltb-true n 255 t) (class_is_name k h)
  word_read (roles.Address k) h t = rw (class_is_name k h) refl
  word_read (roles.ImpDef r) h t = rw (reg_is_name r h) refl
  word_read (roles.ImpRead r) h t = rw (reg_is_name r h) refl
  word_read (roles.Value None) h t = refl
  word_read (roles.Value (Some k)) h t = rw (class_is_name k h) refl
  word_read _ h t = refl

  tied_found : (k : ClassId) (n : ℕ) (t : Bool) → (n == 0) ≡ t → nat_lt k.0 (length classes) ≡ true → role_named names (if n == 0 then raw_roles.Named named.Tied (class_name classes k) else raw_roles.Tied n (class_name classes k)) ≡ Some (roles.Tied k n)
  unfolding role_with
  tied_found k n true e h = rw e (ap (option_map (λ c. roles.Tied c 0)) (class_found k h) ∙ ap (λ m. Some (roles.Tied k m)) (sym (eqb-true n 0 e)))
  tied_found k n false e h = rw e (ap (option_map (λ c. roles.Tied c n)) (class_found k h))

  role_found : (r : Role) → Known r → role_named names (raw_of classes regs r) ≡ Some r
  unfolding role_with
  role_found (roles.Def k) h = ap (option_map roles.Def) (class_found k h)
  role_found (roles.Early k) h = ap (option_map roles.Early) (class_found k h)
  role_found (roles.Read k) h = ap (option_map roles.Read) (class_found k h)
  role_found (roles.Tied k n) h = tied_found k n (n == 0) refl h
  role_found (roles.Address k) h = ap (option_map roles.Address) (class_found k h)
  role_found (roles.ImpDef r) h = ap (option_map roles.ImpDef) (reg_found r h)
  role_found (roles.ImpRead r) h = ap (option_map roles.ImpRead) (reg_found r h)
  role_found (roles.Value None) h = refl
  role_found (roles.Value (Some k)) h = ap (option_map (λ c. roles.Value (Some c))) (class_found k h)
  role_found _ h = refl

  named_word : (prefix name : List ℕ) → is_word prefix ≡ true → is_name name ≡ true → is_word (prefix ++ name) ≡ true
  named_word prefix name h e = joined_word prefix name h (name_is_word name e)

  tie_is_word : (n : ℕ) (t : Bool) → (n == 0) ≡ t → n < 255 → is_word (tie_word n) ≡ true
  tie_is_word n true e few = rw e refl
  tie_is_word n false e few = rw e (joined_word (codes "tied/" ++ decimal n) (codes ":") (joined_word (codes "tied/") (decimal n) refl (decimal_is_word n few)) refl)

  word_is_word : (r : Role) → Known r → has_small_tie r ≡ true → is_word (role_word classes regs r) ≡ true
  word_is_word (roles.Def k) h t = named_word (codes "def:") (class_name classes k) refl (class_is_name k h)
  word_is_word (roles.Early k) h t = named_word (codes "early:") (class_name classes k) refl (class_is_name k h)
  word_is_word (roles.Read k) h t = named_word (codes "use:") (class_name classes k) refl (class_is_name k h)
  word_is_word (roles.Tied k n) h t = named_word (tie_word n) (class_name classes k) (tie_is_word n (n == 0) refl (ltb-true n 255 t)) (class_is_name k h)
  word_is_word (roles.Address k) h t = named_word (codes "addr:") (class_name classes k) refl (class_is_name k h)
  word_is_word (roles.ImpDef r) h t = named_word (codes "impdef:") (reg_name regs r) refl (reg_is_name r h)
  word_is_word (roles.ImpRead r) h t = named_word (codes "impuse:") (reg_name regs r) refl (reg_is_name r h)
  word_is_word (roles.Value None) h t = refl
  word_is_word (roles.Value (Some k)) h t = named_word (codes "val:") (class_name classes k) refl (class_is_name k h)
  word_is_word _ h t = refl

  pub words_read : (rs : List Role) → list_all (role_known (length classes) (length regs)) rs ≡ true → list_all has_small_tie rs ≡ true → roles_of (map (role_word classes regs) rs) ≡ Some (map (raw_of classes regs) rs)
  unfolding roles_of
  words_read [] h t = refl
  words_read (r ∷ rs) h t =
      let here = word_read r (first_of_both _ _ h) (first_of_both _ _ t) in
      let rest = words_read rs (second_of_both _ _ h) (second_of_both _ _ t) in
      rw (here, rest) refl

  pub roles_found : (rs : List Role) → list_all (role_known (length classes) (length regs)) rs ≡ true → roles_named names (map (raw_of classes regs) rs) ≡ Some rs
  unfolding roles_named
  roles_found [] h = refl
  roles_found (r ∷ rs) h =
      let here = role_found r (first_of_both _ _ h) in
      let rest = roles_found rs (second_of_both _ _ h) in
      rw (here, rest) refl

  pub role_words : (rs : List Role) → list_all (role_known (length classes) (length regs)) rs ≡ true → list_all has_small_tie rs ≡ true → list_all is_word (map (role_word classes regs) rs) ≡ true
  role_words [] h t = refl
  role_words (r ∷ rs) h t = both _ _ (word_is_word r (first_of_both _ _ h) (first_of_both _ _ t)) (role_words rs (second_of_both _ _ h) (second_of_both _ _ t))
