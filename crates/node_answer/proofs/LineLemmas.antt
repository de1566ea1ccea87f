-- The lines that report what was done.
use Rattle.std.proofs.Common.{◌≡◌, ℕ, ◌+◌, ◌<◌, List, [], ◌∷◌, length, map, take, get_or, Result, Ok, Err, sym, ap, ◌∙◌, ◌++◌, append_assoc}
use Rattle.std.specs.Prelude.{IfOk, String, string_bytes, codes}
use Rattle.std.specs.declared.alloc.Global.{Global}
use Rattle.std.specs.declared.alloc.AllocError.{AllocError}
use Rattle.std.proofs.lemmas.List.{map-append, map_more}
use Rattle.erl_term.specs.Printing.{text_of}
use Rattle.erl_term.specs.Value.{Value, value_of}
use Rattle.erl_term.specs.declared.term.Term.{Term}
use Rattle.relup_file.specs.Search.{FoundForm}
use Rattle.node_answer.specs.Lines.{checked_line, ok_line}
use Rattle.rel_files.specs.Terms.{text_term}

-- one more term, of what stands in its place
pub term_more : {A : Type 0} (f : A → Value) (all : List A) (i : ℕ) (a : A) (old new : List Term) (term : Term) → i < length all → a ≡ get_or all i a → value_of term ≡ f a → new ≡ old ++ term ∷ []
    → map value_of old ≡ map f (take i all) → map value_of new ≡ map f (take (i + 1) all)
term_more f all i a old new term within at made grown so_far =
    let spelled : map f (take (i + 1) all) ≡ map f (take i all) ++ f a ∷ [] = map_more f all i a within ∙ ap (λ b. map f (take i all) ++ f b ∷ []) (sym at) in
    (ap (map value_of) grown ∙ map-append value_of old (term ∷ [])) ∙ ((λ j. so_far j ++ made j ∷ []) ∙ sym spelled)

-- the line of a script
pub reports_found : (line : Result (String Global) AllocError) (other descr : List ℕ) (f : FoundForm) → IfOk line (λ s. string_bytes s ≡ codes "ok " ++ (other ++ (codes " " ++ (descr ++ codes "\n"))))
    → other ≡ text_of (text_term f.other) → descr ≡ text_of f.descr → IfOk line (λ s. string_bytes s ≡ checked_line (Ok f))
reports_found (Err e) other descr f reported is has = tt
reports_found (Ok s) other descr f reported is has =
    reported ∙ ap (λ t. codes "ok " ++ t) (sym (append_assoc other (codes " " ++ descr) (codes "\n"))) ∙ ap (λ t. codes "ok " ++ ((t ++ (codes " " ++ descr)) ++ codes "\n")) is
    ∙ ap (λ t. codes "ok " ++ ((text_of (text_term f.other) ++ (codes " " ++ t)) ++ codes "\n")) has

-- the line of a start
pub reports_versions : (line : Result (String Global) AllocError) (erts vsn : List ℕ) → IfOk line (λ s. string_bytes s ≡ codes "ok " ++ (erts ++ (codes " " ++ (vsn ++ codes "\n"))))
    → IfOk line (λ s. string_bytes s ≡ ok_line (erts ++ (codes " " ++ vsn)))
reports_versions (Err e) erts vsn reported = tt
reports_versions (Ok s) erts vsn reported = reported ∙ ap (λ t. codes "ok " ++ t) (sym (append_assoc erts (codes " " ++ vsn) (codes "\n")))
