use Rattle.bureau_store.proofs.StoreFacts.{lists_make}
use Rattle.bureau_store.proofs.list_store.ListStoreStore.TheImpl.Goals as goal

pub make-tells : goal.make-tells
make-tells c = search (lists_make)
