-- The key lines of a document give registers only classes of its target.
use Rattle.std.proofs.Common.{ℕ, List, [], ◌∷◌, Option, Some, None, Ok, Err, Bool, true, false}
use Rattle.std.specs.Prelude.{IfOk, IfSome, codes, ◌++◌, ◌||◌, ◌==◌, is_some, is_none, if◌then◌else◌}
use Rattle.target_base.specs.Names.{is_letter}
use Rattle.target_base.specs.declared.types.ClassId.{ClassId}
use Rattle.target_base.specs.declared.types.Target.{Target}
use Rattle.target_base.specs.Registers.{IsClass}
use Rattle.mir_lines.specs.Bytes.{is_word}
use Rattle.mir_read.specs.declared.stop.TextKind.TheVariants as kinds
use Rattle.mir_read.specs.declared.keys.Key.TheVariants as keys
use Rattle.mir_read.specs.declared.keys.Keys.{Keys}
use Rattle.mir_read.specs.declared.ranges.AnnotatedClass.TheVariants as given
use Rattle.mir_read.specs.Names.{name_lists, class_named}
use Rattle.mir_read.specs.Keys.{is_key, key_named, with_name_value, name_value, name_begun, is_body_value, body_begun, key_begun, continued, colon_cut, begun_with, found, with_class, with_declared, declared_class, with_frame, declared_frame, declared, kept, key_line}
use Rattle.mir_text.proofs.Laws.Given.{GiveClasses, mentioned-gives}
use Rattle.mir_text.proofs.Laws.Looked.{bind-ok, either-ok, named-class}

module _ (t : Target) where
  abbrev pub KeysGive : Keys → Type 0
  KeysGive k = GiveClasses t k.registers

  -- what a line is

  named-gives : (k : Keys) (value : Option (List ℕ)) → KeysGive k → IfOk (with_name_value k value) KeysGive
  named-gives k None h = tt
  named-gives k (Some value) h = h

  name-gives : (k : Keys) (value : List ℕ) → KeysGive k → IfOk (name_begun k value) KeysGive
  unfolding name_begun
  name-gives k value h = either-ok (is_some k.name) (Err kinds.Layout) (with_name_value k (name_value value)) KeysGive tt (named-gives k (name_value value) h)

  body-gives : (k : Keys) (value : List ℕ) → KeysGive k → IfOk (body_begun k value) KeysGive
  unfolding body_begun
  body-gives k value h =
      either-ok (is_none k.name) (Err kinds.Layout) _ KeysGive tt
      (either-ok (is_body_value value) (Ok (record k { key = keys.Body })) (Err kinds.Token) KeysGive h tt)

  begun-gives : (k : Keys) (name value : List ℕ) → KeysGive k → IfOk (key_begun k name value) KeysGive
  unfolding key_begun
  begun-gives k name value h =
      either-ok (is_word name (codes "name")) (name_begun k value) _ KeysGive (name-gives k value h)
      (either-ok (is_word name (codes "body")) (body_begun k value) (Ok (record k { key = key_named name })) KeysGive (body-gives k value h) h)

  cut-gives : (k : Keys) (cut : Option (List ℕ × List ℕ)) → KeysGive k → IfOk (begun_with k cut) KeysGive
  cut-gives k None h = tt
  cut-gives k (Some p) h = begun-gives k p.0 p.1 h

  continued-gives : (k : Keys) → KeysGive k → IfOk (continued k) KeysGive
  unfolding continued
  continued-gives k h = either-ok (is_key k.key keys.Outside) (Err kinds.Layout) (Ok k) KeysGive tt h

  found-gives : (k : Keys) (line : List ℕ) → KeysGive k → IfOk (found k line) KeysGive
  unfolding found
  found-gives k [] h = continued-gives k h
  found-gives k (b ∷ bs) h =
      either-ok (is_letter b) (begun_with k (colon_cut (b ∷ bs))) _ KeysGive (cut-gives k (colon_cut (b ∷ bs)) h)
      (either-ok (b == 32 || b == 35) (continued k) (Err kinds.Layout) KeysGive (continued-gives k h) tt)

  -- what it declares

  class-gives : (k : Keys) (name : List ℕ) (c : Option ClassId) → KeysGive k → IfSome c (IsClass t) → IfOk (with_class k name c) KeysGive
  class-gives k name None h i = tt
  class-gives k name (Some c) h i = mentioned-gives t k.registers name given.Nothing (given.One c) h tt i

  registers-give : (k : Keys) (p : Option (List ℕ × List ℕ)) → KeysGive k → IfOk (with_declared (name_lists t) k p) KeysGive
  registers-give k None h = h
  registers-give k (Some p) h = class-gives k p.0 (class_named (name_lists t) p.1) h (named-class t p.1)

  frame-gives : (k : Keys) (f : Option (ℕ × Bool)) → KeysGive k → KeysGive (with_frame k f)
  frame-gives k None h = h
  frame-gives k (Some f) h = h

  declared-gives : (k : Keys) (line : List ℕ) → KeysGive k → IfOk (declared (name_lists t) k line) KeysGive
  unfolding declared
  declared-gives k line h =
      either-ok (is_key k.key keys.Registers) (with_declared (name_lists t) k (declared_class line)) _ KeysGive (registers-give k (declared_class line) h)
      (either-ok (is_key k.key keys.Stack) (Ok (with_frame k (declared_frame line))) (Ok k) KeysGive (frame-gives k (declared_frame line) h) h)

  kept-gives : (k : Keys) (line : List ℕ) → KeysGive k → KeysGive (kept k line)
  unfolding kept
  kept-gives k line h = go (is_key k.key keys.Registers || is_key k.key keys.Liveins)
    where
      go : (b : Bool) → KeysGive (if b then k else record k { head = k.head ++ (line ++ codes "\n") })
      go true = h
      go false = h

  -- one line before the body
  pub key-line-gives : (k : Keys) (line : List ℕ) → KeysGive k → IfOk (key_line (name_lists t) k line) KeysGive
  unfolding key_line
  key-line-gives k line h =
      bind-ok (found k line) _ KeysGive KeysGive (found-gives k line h) (λ f i.
      bind-ok (declared (name_lists t) f line) _ KeysGive KeysGive (declared-gives f line i) (λ d j. kept-gives d line j))
