use Rattle.std.proofs.Common.{subst}
use Rattle.std.proofs.lemmas.Result.{IfOk-weaker}
use Rattle.std.specs.String.{string_bytes}
use Rattle.key_making.specs.Table.{IsTable, IsParty}
use Rattle.key_making.proofs.Tables.{validator_right, client_right}
use Rattle.key_making.proofs.table.KeyTable.file_of.Goals as goal

pub returns-in-Validator : goal.returns-in-Validator
returns-in-Validator c =
    let table = subst IsTable c.self.view_is c.self.invariant in
    let party = subst (IsParty c.args.self.now) c.in-Validator.is c.requires in
    IfOk-weaker c.validator_file.result _ _ (λ text e. rw c.in-Validator.is (validator_right c.args.self.now c.in-Validator.me (string_bytes text) table party e)) c.validator_file.ensures

pub returns-in-Client : goal.returns-in-Client
returns-in-Client c =
    let table = subst IsTable c.self.view_is c.self.invariant in
    let party = subst (IsParty c.args.self.now) c.in-Client.is c.requires in
    IfOk-weaker c.client_file.result _ _ (λ text e. rw c.in-Client.is (client_right c.args.self.now c.in-Client.client (string_bytes text) table party e)) c.client_file.ensures
