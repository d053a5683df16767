-- Each refusal contradicts the shape of a saved file. Assumes nothing.
use Rattle.std.proofs.Common.{refl}
use Rattle.dayfile.proofs.Places.{contracts_are}
use Rattle.saving.proofs.Shapes.{accounts_are, decided, laid, length_wrong, no_accounts_lem, no_contracts_lem}
use Rattle.saving.proofs.shape.SavedFile.of.Goals as goal

pub returns-in_err-contracts : goal.returns-in_err-contracts
returns-in_err-contracts c = rw c.from_residual.ensures (no_contracts_lem _ c.in_err-contracts.ensures)

pub returns-in_err-accounts : goal.returns-in_err-accounts
returns-in_err-accounts c =
    let p = c.in_ok-contracts.ensures in
    rw c.from_residual-in_err-accounts.ensures (no_accounts_lem _ p.0 p.1 refl c.in_err-accounts.ensures)

pub returns-then-bytes-file_length : goal.returns-then-bytes-file_length
returns-then-bytes-file_length c =
    let p = c.in_ok-contracts.ensures in
    let q = c.in_ok-accounts.ensures in
    length_wrong _ _ _ _ (contracts_are _ p.0 p.1) (accounts_are _ p.0 p.1 refl q.0 q.1) c.file_length.ensures.0 c.if-bytes-file_length.true

pub invariant_of-file : goal.invariant_of-file
invariant_of-file c =
    let p = c.in_ok-contracts.ensures in
    let q = c.in_ok-accounts.ensures in
    record {
      laid = laid _ _ _ _ (contracts_are _ p.0 p.1) (accounts_are _ p.0 p.1 refl q.0 q.1) c.file_length.ensures.0 c.if-bytes-file_length.false p.1 p.2 q.1 q.2;
    }

pub returns-then-not-counts_right : goal.returns-then-not-counts_right
returns-then-not-counts_right c =
    let p = c.in_ok-contracts.ensures in
    let q = c.in_ok-accounts.ensures in
    decided _ _ _ _ (contracts_are _ p.0 p.1) (accounts_are _ p.0 p.1 refl q.0 q.1) c.file_length.ensures.0 c.if-bytes-file_length.false p.1 p.2 q.1 q.2
    c.if-not-counts_right.ensures

pub returns : goal.returns
returns c =
    let p = c.in_ok-contracts.ensures in
    let q = c.in_ok-accounts.ensures in (
      decided _ _ _ _ (contracts_are _ p.0 p.1) (accounts_are _ p.0 p.1 refl q.0 q.1) c.file_length.ensures.0 c.if-bytes-file_length.false p.1 p.2 q.1 q.2
          c.if-not-counts_right.ensures,
      refl,
    )
