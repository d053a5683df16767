-- A statement's refusals, one after the other, and what the output area holds. Assumes nothing.
use Rattle.laws.specs.Logic.{Bool, true, false, not, List, [], ◌∷◌, ◌≡◌, refl, sym, ap, ◌∙◌}
use Rattle.laws.specs.Numbers.{ℕ, ◌<◌, ◌≤◌, arith, lt-ltb, le-ltb, eqb, ltb, length}
use Rattle.areas.specs.Lists.{over}
use Rattle.rules.specs.Answers.{Refusal, first_of, ◌when◌}
use Rattle.rules.specs.Codes.{code_number}
use Rattle.rules.specs.Exchange.{Exchange}
use Rattle.rules.specs.declared.codes.Code.{Code}
use Rattle.rules.specs.declared.codes.Code.TheVariants.{AreaTooShort, ClientClosesTooMuch}
use Rattle.std.specs.Prelude.{Result, Ok, Err}
use Rattle.statements.specs.Parts.{AnswerIs, ToldIs}
use Rattle.clients.specs.Clients.{never_closes_more}
use Rattle.statements.specs.Statement.{day_refusals, statement_of}

-- ---- codes

pub code_here : (code : ℕ) (test : Bool) (rs : List Refusal) → test ≡ true → first_of ((code when test) ∷ rs) ≡ code
unfolding first_of
code_here code test rs e = rw e

pub code_later : (code : ℕ) (test : Bool) (rs : List Refusal) → test ≡ false → first_of ((code when test) ∷ rs) ≡ first_of rs
unfolding first_of
code_later code test rs e = rw e

no_code : first_of [] ≡ 0
unfolding first_of
no_code = refl

-- ---- answers

module _ (y : Exchange) (clients : ℕ) (out : List ℕ) where
  -- "Nothing is then written."
  pub refused_is : (code : ℕ) (k : Code) → code ≡ code_number k → eqb (code_number k) 0 ≡ false → AnswerIs code y clients out (Err k) out
  refused_is code k e z = record { code_is = sym e; length_is = rw z; out_is = rw z }

  -- another code that is the same
  pub same_code : (code code' : ℕ) → code ≡ code' → (r : Result ℕ Code) (out' : List ℕ) → AnswerIs code y clients out r out' → AnswerIs code' y clients out r out'
  same_code code code' e r out' a = record { code_is = a.code_is ∙ e; length_is = a.length_is; out_is = a.out_is }

  pub told_27 : never_closes_more y ≡ false → ToldIs y clients out (Err ClientClosesTooMuch) out
  told_27 e = refused_is _ ClientClosesTooMuch (code_here 27 (not (never_closes_more y)) _ (ap not e)) refl

  module _ (covered : never_closes_more y ≡ true) where
    past_27 : first_of (day_refusals y clients (length out)) ≡ first_of ((29 when ltb (length out) (length (statement_of y clients))) ∷ [])
    past_27 = code_later 27 (not (never_closes_more y)) _ (ap not covered)

    pub told_29 : (n : ℕ) → n ≡ length (statement_of y clients) → length out < n → ToldIs y clients out (Err AreaTooShort) out
    told_29 n e h = refused_is _ AreaTooShort (past_27 ∙ code_here 29 _ [] (lt-ltb (length out) (length (statement_of y clients)) (omega arith))) refl

    pub told_0 : (n : ℕ) → n ≡ length (statement_of y clients) → n ≤ length out → (out' : List ℕ) → out' ≡ over out 0 (statement_of y clients)
        → ToldIs y clients out (Ok n) out'
    told_0 n e h out' w =
        record {
          code_is = sym (past_27 ∙ code_later 29 _ [] (le-ltb (length out) (length (statement_of y clients)) (omega arith)) ∙ no_code);
          length_is = e;
          out_is = w;
        }
