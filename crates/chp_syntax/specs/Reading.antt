-- What program a text reads as.
use Rattle.std.specs.Prelude.{◌≡◌, ℕ, ◌+◌, ◌-◌, ◌<◌, ◌≤◌, ◌++◌, length, ◌&&◌, nat_le, Bool, true, List, [], ◌∷◌, take}
use Prim.Native.Nat.{suc}
use Rattle.chp_syntax.specs.declared.token.Token.{Token}
use Rattle.chp_syntax.specs.declared.token.TokenKind.{TokenKind}
use Rattle.chp_syntax.specs.declared.token.TokenKind.TheVariants.{Sign}
use Rattle.chp_syntax.specs.declared.token.Mark.TheVariants as mark
use Rattle.chp_syntax.specs.Trees.{Statement, follows, besides, selects, repeats, Statements, no_members, and_member, Arms, no_arms, and_arm, Procedure, ProgramTree}
use Rattle.chp_syntax.specs.Tokens.{Tokens}
use Rattle.chp_syntax.specs.Grammar.{Derives}
use Rattle.std.specs.List.{list_all}

-- how many brackets are open after a token, given how many were open before it
abbrev pub depth_after : ℕ → TokenKind → ℕ
depth_after n (Sign mark.OpenRound) = suc n
depth_after n (Sign mark.OpenSquare) = suc n
depth_after n (Sign mark.OpenCurly) = suc n
depth_after n (Sign mark.CloseRound) = n - 1
depth_after n (Sign mark.CloseSquare) = n - 1
depth_after n (Sign mark.CloseCurly) = n - 1
depth_after n _ = n

abbrev pub depth_of : ℕ → List Token → ℕ
depth_of n [] = n
depth_of n (t ∷ ts) = depth_of (depth_after n t.kind) ts

-- nowhere are more than 256 brackets open
abbrev pub IsShallow : List Token → Type 0
IsShallow ts = (n : ℕ) → depth_of 0 (take n ts) ≤ 256

abbrev pub arm_count : Arms → ℕ
arm_count no_arms = 0
arm_count (and_arm g t bs) = suc (arm_count bs)

-- selections and guarded repetitions have at most sixteen arms
abbrev mutual
  pub few_arms : Statement → Bool
  few_arms (follows us) = few_arms_each us
  few_arms (besides us) = few_arms_each us
  few_arms (selects again bs) = nat_le (arm_count bs) 16 && few_arms_in bs
  few_arms (repeats t) = few_arms t
  few_arms _ = true

  pub few_arms_each : Statements → Bool
  few_arms_each no_members = true
  few_arms_each (and_member t us) = few_arms t && few_arms_each us

  pub few_arms_in : Arms → Bool
  few_arms_in no_arms = true
  few_arms_in (and_arm g t bs) = few_arms t && few_arms_in bs

-- the index, in a list of tokens, of the first one at which no program can continue; the number of tokens, if they
-- stop too early. The limits of nesting and of arms play no part in it
pub record FirstFault (ts : List Token) (n : ℕ) : Type 0 where
  pub within : n ≤ length ts
  pub never : n < length ts → (more : List Token) (p : ProgramTree) → ¬ Derives (take (n + 1) ts ++ more) p
  pub short : n ≡ length ts → (p : ProgramTree) → ¬ Derives ts p
  pub viable : (more : List Token) × (p : ProgramTree) × Derives (take n ts ++ more) p

-- the text reads as the program
pub record Reads (text : List ℕ) (p : ProgramTree) : Type 0 where
  pub tokens : List Token
  pub cut : Tokens text tokens
  pub derives : Derives tokens p
  pub shallow : IsShallow tokens
  pub few_in_procs : list_all (λ (q : Procedure). few_arms q.body) p.procs ≡ true
  pub few_in_body : few_arms p.body ≡ true
