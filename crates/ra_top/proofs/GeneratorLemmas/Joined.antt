-- Texts one after the other.
use Rattle.std.proofs.Common.{◌≡◌, List, ℕ, ◌++◌, append_assoc}
use Rattle.std.specs.Prelude.{OnOk, Result}
use Rattle.std.proofs.lemmas.Result.{on_ok_weaker}

-- two texts with numbers, and an end
pub two_numbers : {T E : Type 0} (r : Result T E) (o0 o1 o2 o3 s m t n end : List ℕ) → o1 ≡ o0 ++ (s ++ m) → o2 ≡ o1 ++ (t ++ n) → OnOk r (o3 ≡ o2 ++ end) → OnOk r (o3 ≡ o0 ++ (s ++ (m ++ (t ++ (n ++ end)))))
two_numbers r o0 o1 o2 o3 s m t n end e1 e2 = on_ok_weaker r (λ e. rw (e, e2, e1) (simp append_assoc))

-- the same with a text between them
pub text_between : {T E : Type 0} (r : Result T E) (o0 o1 o2 o3 o4 s m mid t n end : List ℕ) → o1 ≡ o0 ++ (s ++ m) → o2 ≡ o1 ++ mid → o3 ≡ o2 ++ (t ++ n) → OnOk r (o4 ≡ o3 ++ end) → OnOk r (o4 ≡ o0 ++ (s ++ (m ++ (mid ++ (t ++ (n ++ end))))))
text_between r o0 o1 o2 o3 o4 s m mid t n end e1 e2 e3 = on_ok_weaker r (λ e. rw (e, e3, e2, e1) (simp append_assoc))

-- three texts with numbers, and an end
pub three_numbers : {T E : Type 0} (r : Result T E) (o0 o1 o2 o3 o4 s m t n u k end : List ℕ) → o1 ≡ o0 ++ (s ++ m) → o2 ≡ o1 ++ (t ++ n) → o3 ≡ o2 ++ (u ++ k) → OnOk r (o4 ≡ o3 ++ end) → OnOk r (o4 ≡ o0 ++ (s ++ (m ++ (t ++ (n ++ (u ++ (k ++ end)))))))
three_numbers r o0 o1 o2 o3 o4 s m t n u k end e1 e2 e3 = on_ok_weaker r (λ e. rw (e, e3, e2, e1) (simp append_assoc))

-- the same with two texts behind the first
pub texts_between : {T E : Type 0} (r : Result T E) (o0 o1 o2 o3 o4 o5 o6 s m mid name t n u k end : List ℕ) → o1 ≡ o0 ++ (s ++ m) → o2 ≡ o1 ++ mid → o3 ≡ o2 ++ name → o4 ≡ o3 ++ (t ++ n) → o5 ≡ o4 ++ (u ++ k) → OnOk r (o6 ≡ o5 ++ end) → OnOk r (o6 ≡ o0 ++ (s ++ (m ++ (mid ++ (name ++ (t ++ (n ++ (u ++ (k ++ end)))))))))
texts_between r o0 o1 o2 o3 o4 o5 o6 s m mid name t n u k end e1 e2 e3 e4 e5 = on_ok_weaker r (λ e. rw (e, e5, e4, e3, e2, e1) (simp append_assoc))
